-- A verdict that is kept from call to call, and a decoder that reads a call's bytes in parts.
use Rattle.std.proofs.Common.{◌≡◌, ℕ, inl, inr, Bool, true, false, IsTrue, List, [], ◌∷◌, ◌++◌, refl, sym, ◌∙◌, ap, subst}
use Rattle.std.specs.Prelude.{◌↔◌}
use Rattle.std.specs.Str.{all_scalars}
use Rattle.std.proofs.lemmas.List.{append-nil}
use Rattle.encoding_mem.specs.Coding.{Coding, IsCoding, AllMapped, open_from, last_set, output, bytes_from}
use Rattle.encoding_mem.specs.calls.Decoding.{DecoderState, EndsWith}
use Rattle.encoding_mem.specs.calls.EncoderCalls.{Encodes, Leaves}
use Rattle.encoding_mem.specs.Piece.{Piece}
use Rattle.encoding_mem.specs.ReadBack.{ReadsAs, ReadsBackExactly}
use Rattle.encoding_mem.specs.calls.ReadCalls.{HasTaken, HasTakenPart, KeepsVerdict, NeverReadsWhole, IsNotUnmappable, ReadsWhole, ReadsWholeAs}
use Rattle.encoding_mem.specs.Stateless.{HasOneSet}
use Rattle.encoding_mem.specs.Steps.{Follows, IsBroken, StepLaw, in_any_set}
use Rattle.encoding_mem.specs.laws.Agreement.{broken_behind, broken_never_reads, open_reads}
use Rattle.encoding_mem.specs.laws.EncoderCalls.{mapped_open}
use Rattle.encoding_mem.specs.laws.ReadCalls.{agreed_whole, ends_along, scalars_parts}
use Rattle.encoding_mem.specs.declared.codec.reference.Reference.{Reference}
use Rattle.encoding_mem.specs.declared.codec.reference.Reference.TheVariants.{Decimal}
use Rattle.encoding_mem.specs.declared.codec.encoder_result.EncoderResult.{EncoderResult}
use Rattle.encoding_mem.specs.declared.codec.encoder_result.EncoderResult.TheVariants.{InputEmpty as Read, OutputFull, Unmappable}
use Rattle.encoding_mem.specs.declared.codec.form.EscapeState.{EscapeState}
use Rattle.encoding_mem.specs.declared.codec.form.EscapeState.TheVariants.{Ascii}
use Rattle.encoding_mem.specs.declared.codec.decoder_result.DecoderResult.TheVariants.{InputEmpty}
use Rattle.encoding_mem.specs.Decided.{IsFixed}

-- ---- the verdict

-- a true verdict is kept by a call that agrees
pub keeps_agreed : (e : Coding) (last : Bool) (pieces now : List ℕ → List Piece) (s : EscapeState) (t : List ℕ) (s' : EscapeState) (rest : List ℕ)
    → ReadsWholeAs e last pieces now s t s' rest → KeepsVerdict e last true pieces s t true now s' rest
keeps_agreed e last pieces now s t s' rest same ref u ends = (λ h. (h.0, (same ref u ends).0 h.1), λ h. (h.0, (same ref u ends).1 h.1))

-- it becomes false if the text is never read back
pub keeps_lost : (e : Coding) (last verdict : Bool) (pieces now : List ℕ → List Piece) (s : EscapeState) (t : List ℕ) (s' : EscapeState) (rest : List ℕ)
    → NeverReadsWhole e last pieces s t → KeepsVerdict e last verdict pieces s t false now s' rest
keeps_lost e last verdict pieces now s t s' rest never ref u ends = (λ h. absurd (never ref u ends h.1), λ h. absurd (untrue h.0))
  where
    untrue : IsTrue false → ⊥
    untrue h = cc

-- and stays false
pub keeps_false : (e : Coding) (last : Bool) (pieces now : List ℕ → List Piece) (s : EscapeState) (t : List ℕ) (s' : EscapeState) (rest : List ℕ) → KeepsVerdict e last false pieces s t false now s' rest
keeps_false e last pieces now s t s' rest ref u ends = (λ h. absurd (untrue h.0), λ h. absurd (untrue h.0))
  where
    untrue : IsTrue false → ⊥
    untrue h = cc

-- from call to call
pub keeps_then : (e : Coding) (last v v1 v2 : Bool) (P P1 P2 : List ℕ → List Piece) (s s1 s2 : EscapeState) (t t1 t2 : List ℕ)
    → KeepsVerdict e last v P s t v1 P1 s1 t1 → KeepsVerdict e last v1 P1 s1 t1 v2 P2 s2 t2 → KeepsVerdict e last v P s t v2 P2 s2 t2
keeps_then e last v v1 v2 P P1 P2 s s1 s2 t t1 t2 h k ref u ends =
    let one = h ref u ends in
    let two = k ref u ends in
    (λ x. two.0 (one.0 x), λ x. one.1 (two.1 x))

-- at the end it is the verdict
pub verdict_at_end : (ref : Reference) {need : ℕ} (e : Coding) → IsCoding need e → (verdict : Bool) (pieces : List ℕ → List Piece) → (IsTrue verdict → ReadsAs pieces [] [])
    → (IsTrue verdict × ReadsWhole ref e pieces Ascii []) ↔ IsTrue verdict
verdict_at_end ref e coding verdict pieces h = (λ x. x.0, λ x. (x, ends_along ref e coding pieces (h x)))

-- ---- if each character that has bytes is read as it

same_open : (ref : Reference) (e : Coding) → HasOneSet e → (s q : EscapeState) (t : List ℕ) → open_from ref e s t ≡ open_from ref e q t
same_open ref e one s q [] = refl
same_open ref e one s q (c ∷ t) = rw (one.escape s (e.set s c), one.escape q (e.set q c), one.set s c, one.set q c) refl

next_is_rest : (e : Coding) (last : Bool) (outcome : EncoderResult) (q : EscapeState) (next rest : List ℕ) (s' : EscapeState) → IsNotUnmappable outcome → Leaves e last outcome q next rest s' → next ≡ rest
next_is_rest e last Read q next rest s' kept l = l.0 ∙ sym l.1
next_is_rest e last OutputFull q next rest s' kept l = l.0
next_is_rest e last (Unmappable m) q next rest s' kept l = absurd (kept m refl)

exact_follows : (e : Coding) (P : List ℕ → List Piece) → HasOneSet e → ReadsBackExactly P e → StepLaw e (in_any_set P) → (s : EscapeState) (before : List ℕ) → all_scalars before ≡ true → AllMapped e before
    → Follows P P (bytes_from e s before) before
exact_follows e P one exact steps s before scalars mapped = subst (λ l. Follows P P l before) (mapped_open Decimal e s before mapped) (elim (open_reads Decimal e (in_any_set P) steps s before scalars) [
  | inl follows ↦ follows
  | inr broken ↦
      let whole = output Decimal e before in
      let is : open_from Decimal e s before ++ e.escape (last_set e Ascii before) Ascii ≡ whole = ap (λ l. l ++ e.escape (last_set e Ascii before) Ascii) (same_open Decimal e one s Ascii before) in
      absurd (broken_never_reads P whole before (subst (λ l. IsBroken P l before) is (broken_behind P (open_from Decimal e s before) before (e.escape (last_set e Ascii before) Ascii) broken)) ((exact Decimal before scalars).1 mapped))
])

-- there a call that reports nothing keeps a true verdict, with nothing read back
pub keeps_exact : {need : ℕ} (e : Coding) (P : List ℕ → List Piece) → IsCoding need e → HasOneSet e → ReadsBackExactly P e → StepLaw e (in_any_set P)
    → (last : Bool) (outcome : EncoderResult) (s : EscapeState) (t w : List ℕ) (s' : EscapeState) (rest : List ℕ) → all_scalars t ≡ true → Encodes e last outcome s t w s' rest → IsNotUnmappable outcome
    → KeepsVerdict e last true P s t true P s' rest
keeps_exact e P coding one exact steps last outcome s t w s' rest scalars c kept =
    let parts = scalars_parts c.before c.next (subst (λ l. all_scalars l ≡ true) c.split scalars) in
    let split : t ≡ c.before ++ rest = c.split ∙ ap (λ l. c.before ++ l) (next_is_rest e last outcome (last_set e s c.before) c.next rest s' kept c.leaves) in
    let bytes : w ≡ bytes_from e s c.before = c.bytes ∙ rw (one.escape (last_set e s c.before) s', append-nil (bytes_from e s c.before)) refl in
    let follows = exact_follows e P one exact steps s c.before parts.0 c.mapped in
    let rest_is : (r : List ℕ) → P (w ++ r) ≡ follows.taken ++ P r = λ r. ap (λ l. P (l ++ r)) bytes ∙ follows.rest r in
    keeps_agreed e last P P s t s' rest (agreed_whole e P P last outcome s t w s' rest coding c kept c.before split follows.taken rest_is follows.well_formed follows.same)

-- ---- a decoder's calls

pub part_begins : (pieces : List ℕ → List Piece) (bytes : List ℕ) → HasTakenPart pieces pieces bytes bytes []
part_begins pieces bytes = record { rest = λ r. refl }

pub part_is_decided : (pieces now : List ℕ → List Piece) (bytes left : List ℕ) (taken : List Piece) → HasTakenPart pieces now bytes left taken → IsFixed pieces bytes taken
part_is_decided pieces now bytes left taken p = λ r. (now (left ++ r), p.rest r)

-- if a call returns InputEmpty, all that can be is decided
pub part_ends : (pieces : List ℕ → List Piece) (after : DecoderState) (bytes left : List ℕ) (taken : List Piece) (free room replacement : ℕ) → HasTakenPart pieces after.pieces bytes left taken
    → EndsWith after left false free room replacement InputEmpty → HasTaken pieces after.pieces bytes taken
part_ends pieces after bytes left taken free room replacement p ends = record {
  rest = λ r. p.rest r ∙ ap (λ l. taken ++ after.pieces (l ++ r)) ends.0;
  nothing = elim ends.1 [ inl none ↦ inl none.1 | inr waits ↦ inr waits.1.undecided ];
}
