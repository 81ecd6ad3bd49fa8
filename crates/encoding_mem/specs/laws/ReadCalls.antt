-- What an encoder's calls write is read along, or is broken.
use Rattle.std.proofs.Common.{◌≡◌, ℕ, ◌⊎◌, inl, inr, Bool, true, false, List, [], ◌∷◌, ◌++◌, refl, sym, ◌∙◌, ap, subst, append_assoc}
use Rattle.std.specs.Prelude.{◌↔◌, IsTrue}
use Rattle.std.specs.Char.{IsScalar}
use Rattle.std.specs.Str.{all_scalars}
use Rattle.std.proofs.Math.Utf8.{scalar}
use Rattle.std.proofs.lemmas.Bool.{and_parts, and_from}
use Rattle.std.proofs.lemmas.List.{append-nil, append_cancel_left, append_cancel_right}
use Rattle.encoding_mem.specs.Agreement.{ReadsByStep}
use Rattle.encoding_mem.specs.Coding.{Coding, IsCoding, IsMapped, AllMapped, open_from, whole_from, last_set, bytes_from, reference_bytes}
use Rattle.encoding_mem.specs.calls.EncoderCalls.{Encodes, EncodesItems, Leaves, IsSetOfNext, AccountsForText, WritesPart}
use Rattle.encoding_mem.specs.Piece.{Piece, head_piece, text, AreWellFormed}
use Rattle.encoding_mem.specs.ReadBack.{ReadsAs}
use Rattle.encoding_mem.specs.calls.ReadCalls.{behind_escape, ReadsAlong, DecidesNothing, IsReadUpTo, HoldsAfter, PrefixIsRead, CallIsRead, CallsAlong, HasTaken, IsNotUnmappable, ReadsWhole, ReadsWholeAs, NeverReadsWhole, CallVerdict, AreRead}
use Rattle.encoding_mem.specs.Steps.{Follows, TextsDiffer, IsBroken, one_from}
use Rattle.encoding_mem.specs.laws.Agreement.{open_reads, broken_stays, broken_behind, broken_then, broken_never_reads, well_formed_parts, never_apart, apart_more}
use Rattle.encoding_mem.specs.laws.EncoderCalls.{mapped_open, last_set-append, encoded_items, encoded_bytes}
use Rattle.encoding_mem.specs.laws.Event.{decides_nothing}
use Rattle.encoding_mem.specs.laws.Piece.{text-append, AreWellFormed-append}
use Rattle.encoding_mem.specs.declared.codec.reference.Reference.{Reference}
use Rattle.encoding_mem.specs.declared.codec.reference.Reference.TheVariants.{Decimal}
use Rattle.encoding_mem.specs.declared.codec.form.Form.TheVariants.{Unmapped}
use Rattle.encoding_mem.specs.declared.codec.form.EscapeState.{EscapeState}
use Rattle.encoding_mem.specs.declared.codec.form.EscapeState.TheVariants.{Ascii}
use Rattle.encoding_mem.specs.declared.codec.encoder_result.EncoderResult.{EncoderResult}
use Rattle.encoding_mem.specs.declared.codec.encoder_result.EncoderResult.TheVariants.{InputEmpty, OutputFull, Unmappable}
use Rattle.encoding_mem.specs.Decided.{AreBytes, IsDecided}

-- ---- a call after an escape

-- An escape to s that was written for the next character, and what a call from s writes, is what a call writes from the
-- set before the escape.
in_same_set : {need : ℕ} (e : Coding) (q s : EscapeState) (c : ℕ) (more : List ℕ) → IsCoding need e → s ≡ e.set q c
    → (bytes_from e q (c ∷ more) ≡ e.escape q s ++ bytes_from e s (c ∷ more)) × (last_set e q (c ∷ more) ≡ last_set e s (c ∷ more))
in_same_set e q s c more k is = (rw (is, k.stays q c, k.same (e.set q c)) refl, rw (is, k.stays q c) refl)

same_leaves : {need : ℕ} (e : Coding) (last : Bool) (outcome : EncoderResult) (q s : EscapeState) (c : ℕ) (more rest : List ℕ) (s' : EscapeState) → IsCoding need e → s ≡ e.set q c
    → Leaves e last outcome s (c ∷ more) rest s' → (s' ≡ s) × Leaves e last outcome q (c ∷ more) rest s'
same_leaves e last InputEmpty q s c more rest s' k is l = absurd (cc (l.0))
same_leaves e last OutputFull q s c more rest s' k is (whole, inl stays) = (stays, (whole, inr (stays ∙ is)))
same_leaves e last OutputFull q s c more rest s' k is (whole, inr chosen) =
    let stays : s' ≡ s = chosen ∙ ap (λ a. e.set a c) is ∙ k.stays q c ∙ sym is in
    (stays, (whole, inr (stays ∙ is)))
same_leaves e last (Unmappable m) q s c more rest s' k is (d, whole, form, chosen) =
    let same : c ≡ d = cc in
    let stays : s' ≡ s = chosen ∙ rw (← same, is, k.stays q c) refl in
    (stays, (d, whole, form, stays ∙ is ∙ ap (e.set q) same))

from_before : {need : ℕ} (e : Coding) (last : Bool) (outcome : EncoderResult) (q s : EscapeState) (c : ℕ) (more before next rest : List ℕ) (s' : EscapeState) → IsCoding need e → s ≡ e.set q c
    → c ∷ more ≡ before ++ next → Leaves e last outcome (last_set e s before) next rest s'
    → (e.escape q s ++ (bytes_from e s before ++ e.escape (last_set e s before) s') ≡ bytes_from e q before ++ e.escape (last_set e q before) s')
    × Leaves e last outcome (last_set e q before) next rest s'
from_before e last outcome q s c more [] next rest s' k is split l =
    let here = same_leaves e last outcome q s c more rest s' k is (subst (λ t. Leaves e last outcome s t rest s') (sym split) l) in
    (rw (here.0, k.same s) (append-nil (e.escape q s)), subst (λ t. Leaves e last outcome q t rest s') split here.1)
from_before e last outcome q s c more (d ∷ before) next rest s' k is split l =
    let same : c ≡ d = cc in
    let at = in_same_set e q s d before k (is ∙ ap (e.set q) same) in
    (rw (at.0, at.1) (sym (append_assoc (e.escape q s) (bytes_from e s (d ∷ before)) _)), subst (λ a. Leaves e last outcome a next rest s') (sym at.1) l)

pub encodes_from : {need : ℕ} (e : Coding) (last : Bool) (outcome : EncoderResult) (q s : EscapeState) (t w : List ℕ) (s' : EscapeState) (rest : List ℕ) → IsCoding need e
    → (s ≡ q) ⊎ IsSetOfNext e q t s → Encodes e last outcome s t w s' rest → Encodes e last outcome q t (e.escape q s ++ w) s' rest
encodes_from e last outcome q s t w s' rest k (inl same) p = rw (same, k.same q) (subst (λ a. Encodes e last outcome a t w s' rest) same p)
encodes_from e last outcome q s [] w s' rest k (inr none) p = absurd none
encodes_from e last outcome q s (c ∷ t) w s' rest k (inr is) p =
    let here = from_before e last outcome q s c t p.before p.next rest s' k is p.split p.leaves in
    record {
      before = p.before;
      next = p.next;
      split = p.split;
      mapped = p.mapped;
      bytes = ap (λ l. e.escape q s ++ l) p.bytes ∙ here.0;
      leaves = here.1;
    }

-- ---- a call from a set

pub scalars_parts : (a b : List ℕ) → all_scalars (a ++ b) ≡ true → (all_scalars a ≡ true) × (all_scalars b ≡ true)
scalars_parts [] b h = (refl, h)
scalars_parts (c ∷ a) b h =
    let parts = and_parts (scalar c) (all_scalars (a ++ b)) h in
    let more = scalars_parts a b parts.1 in
    (and_from (scalar c) (all_scalars a) parts.0 more.0, more.1)

-- what was written for characters that have bytes
reads_before : (e : Coding) (p : EscapeState → List ℕ → List Piece) → ReadsByStep e p → (q : EscapeState) (before : List ℕ) → all_scalars before ≡ true → AllMapped e before
    → Follows (p q) (p (last_set e q before)) (bytes_from e q before) before ⊎ IsBroken (p q) (bytes_from e q before) before
reads_before e p k q before h mapped = subst (λ l. Follows (p q) (p (last_set e q before)) l before ⊎ IsBroken (p q) l before) (mapped_open Decimal e q before mapped) (open_reads Decimal e p k.steps q before h)

-- an escape decides nothing
escape_waits : (e : Coding) (p : EscapeState → List ℕ → List Piece) → ReadsByStep e p → (l s : EscapeState) → DecidesNothing (behind_escape e p l s)
escape_waits e p k l s = elim (k.undecided l s) [
  | inl none ↦ inl (ap (λ x. p l (x ++ [])) none ∙ k.nothing l)
  | inr waits ↦ inr (record {
    more = waits.more;
    bytes = waits.bytes;
    short = waits.short;
    differs = λ same. waits.differs (ap (λ x. head_piece (p l x)) (sym (append-nil (e.escape l s))) ∙ same);
  })
]

-- and gives no text
escape_ends : (e : Coding) (p : EscapeState → List ℕ → List Piece) → ReadsByStep e p → (l s : EscapeState) → ReadsAs (behind_escape e p l s) [] []
escape_ends e p k l s =
    let is : p l (e.escape l s ++ []) ≡ p l (e.escape l s) = ap (p l) (append-nil (e.escape l s)) in
    record { well_formed = subst AreWellFormed (sym is) (k.ignored l s).well_formed; same = ap text is ∙ (k.ignored l s).same }

read_up_to : (e : Coding) (p : EscapeState → List ℕ → List Piece) → ReadsByStep e p → (q l s : EscapeState) (x t : List ℕ) (Holds : (List ℕ → List Piece) → Type 0) → Follows (p q) (p l) x t → Holds (behind_escape e p l s)
    → IsReadUpTo (p q) (x ++ e.escape l s) t Holds
read_up_to e p k q l s x t Holds f h = record {
  taken = f.taken;
  behind = behind_escape e p l s;
  well_formed = f.well_formed;
  same = f.same;
  rest = λ r. ap (p q) (append_assoc x (e.escape l s) r) ∙ f.rest (e.escape l s ++ r);
  nothing = escape_waits e p k l s;
  holds = h;
}

along : (e : Coding) (p : EscapeState → List ℕ → List Piece) (l s : EscapeState) (rest : List ℕ) → (s ≡ l) ⊎ IsSetOfNext e l rest s → ReadsAlong e p (behind_escape e p l s) s rest
along e p l s rest is = record { decided = l; next = is; same = λ x. refl }

goes_on : (e : Coding) (p : EscapeState → List ℕ → List Piece) → ReadsByStep e p → (q l s : EscapeState) (x t : List ℕ) (Holds : (List ℕ → List Piece) → Type 0) → Holds (behind_escape e p l s)
    → Follows (p q) (p l) x t ⊎ IsBroken (p q) x t → IsReadUpTo (p q) (x ++ e.escape l s) t Holds ⊎ IsBroken (p q) (x ++ e.escape l s) t
goes_on e p k q l s x t Holds h (inl f) = inl (read_up_to e p k q l s x t Holds f h)
goes_on e p k q l s x t Holds h (inr broken) = inr (broken_behind (p q) x t (e.escape l s) broken)

lost_behind : (ref : Reference) (e : Coding) (p : EscapeState → List ℕ → List Piece) → ReadsByStep e p → (q l : EscapeState) (x t : List ℕ) (c m : ℕ) → IsScalar c → e.form c ≡ Unmapped m
    → Follows (p q) (p l) x t ⊎ IsBroken (p q) x t → IsBroken (p q) ((x ++ e.escape l (e.set l c)) ++ reference_bytes ref m) (t ++ c ∷ [])
lost_behind ref e p k q l x t c m scalar is reads =
    let one : (x ++ e.escape l (e.set l c)) ++ reference_bytes ref m ≡ x ++ one_from ref e l c = append_assoc x (e.escape l (e.set l c)) (reference_bytes ref m) ∙ rw is refl in
    rw one (elim reads [
      | inl f ↦ broken_then (p q) (p l) x (one_from ref e l c) t (c ∷ []) f (k.lost ref l c scalar (λ mapped. subst IsMapped is mapped))
      | inr broken ↦ broken_stays (p q) x t (one_from ref e l c) (c ∷ []) broken
    ])

-- the characters that a call reads, and what its bytes are for them
reads_leaves : (e : Coding) (p : EscapeState → List ℕ → List Piece) → ReadsByStep e p → (last : Bool) (outcome : EncoderResult) (q l : EscapeState) (x before next rest : List ℕ) (s' : EscapeState)
    → all_scalars next ≡ true → Leaves e last outcome l next rest s' → Follows (p q) (p l) x before ⊎ IsBroken (p q) x before
    → (prefix : List ℕ) × (before ++ next ≡ prefix ++ rest) × PrefixIsRead e p (p q) last outcome prefix (x ++ e.escape l s') s' rest
reads_leaves e p k true InputEmpty q l x before next rest s' h (none, nothing, is) reads =
    (before, rw (none, nothing) refl, goes_on e p k q l s' x before (λ P. ReadsAs P [] []) (escape_ends e p k l s') reads)
reads_leaves e p k false InputEmpty q l x before next rest s' h (none, nothing, is) reads =
    (before, rw (none, nothing) refl, goes_on e p k q l s' x before (λ P. ReadsAlong e p P s' rest) (along e p l s' rest (inl is)) reads)
reads_leaves e p k last OutputFull q l x before next rest s' h (same, is) reads =
    (before, ap (λ y. before ++ y) same, goes_on e p k q l s' x before (λ P. ReadsAlong e p P s' rest) (along e p l s' rest (subst (λ y. (s' ≡ l) ⊎ IsSetOfNext e l y s') same is)) reads)
reads_leaves e p k last (Unmappable m) q l x before next rest s' h (c, same, form, is) reads =
    let scalar_c = (and_parts (scalar c) (all_scalars rest) (subst (λ y. all_scalars y ≡ true) same h)).0 in (
      before ++ c ∷ [],
      ap (λ y. before ++ y) same ∙ sym (append_assoc before (c ∷ []) rest),
      λ ref. rw is (lost_behind ref e p k q l x before c m scalar_c form reads),
    )

reads_from : (e : Coding) (p : EscapeState → List ℕ → List Piece) → ReadsByStep e p → (last : Bool) (outcome : EncoderResult) (q : EscapeState) (t w : List ℕ) (s' : EscapeState) (rest : List ℕ)
    → all_scalars t ≡ true → Encodes e last outcome q t w s' rest → (prefix : List ℕ) × (t ≡ prefix ++ rest) × PrefixIsRead e p (p q) last outcome prefix w s' rest
reads_from e p k last outcome q t w s' rest h c =
    let parts = scalars_parts c.before c.next (subst (λ y. all_scalars y ≡ true) c.split h) in
    let reads = reads_leaves e p k last outcome q (last_set e q c.before) (bytes_from e q c.before) c.before c.next rest s' parts.1 c.leaves (reads_before e p k q c.before parts.0 c.mapped) in
    (reads.0, c.split ∙ reads.1, subst (λ y. PrefixIsRead e p (p q) last outcome reads.0 y s' rest) (sym c.bytes) reads.2)

-- ---- a call after what the decoder has pending

broken_past : (P pieces : List ℕ → List Piece) (y w t : List ℕ) → ((x : List ℕ) → pieces x ≡ P (y ++ x)) → IsBroken P (y ++ w) t → IsBroken pieces w t
broken_past P pieces y w t is h = record {
  taken = h.taken;
  decided = λ r. let d = h.decided r in (d.0, is (w ++ r) ∙ ap P (sym (append_assoc y w r)) ∙ d.1);
  wrong = h.wrong;
}

read_past : (P pieces : List ℕ → List Piece) (y w t : List ℕ) (Holds : (List ℕ → List Piece) → Type 0) → ((x : List ℕ) → pieces x ≡ P (y ++ x))
    → IsReadUpTo P (y ++ w) t Holds ⊎ IsBroken P (y ++ w) t → IsReadUpTo pieces w t Holds ⊎ IsBroken pieces w t
read_past P pieces y w t Holds is (inl h) = inl (record {
  taken = h.taken;
  behind = h.behind;
  well_formed = h.well_formed;
  same = h.same;
  rest = λ r. is (w ++ r) ∙ ap P (sym (append_assoc y w r)) ∙ h.rest r;
  nothing = h.nothing;
  holds = h.holds;
})
read_past P pieces y w t Holds is (inr h) = inr (broken_past P pieces y w t is h)

call_past : (e : Coding) (p : EscapeState → List ℕ → List Piece) (P pieces : List ℕ → List Piece) (y : List ℕ) (last : Bool) (outcome : EncoderResult) (prefix w : List ℕ) (s' : EscapeState) (rest : List ℕ)
    → ((x : List ℕ) → pieces x ≡ P (y ++ x)) → PrefixIsRead e p P last outcome prefix (y ++ w) s' rest → PrefixIsRead e p pieces last outcome prefix w s' rest
call_past e p P pieces y last (Unmappable m) prefix w s' rest is h = λ ref. broken_past P pieces y (w ++ reference_bytes ref m) prefix is (subst (λ l. IsBroken P l prefix) (append_assoc y w (reference_bytes ref m)) (h ref))
call_past e p P pieces y last InputEmpty prefix w s' rest is h = read_past P pieces y w prefix (HoldsAfter e p last InputEmpty s' rest) is h
call_past e p P pieces y last OutputFull prefix w s' rest is h = read_past P pieces y w prefix (HoldsAfter e p last OutputFull s' rest) is h

pub reads_call : (e : Coding) (p : EscapeState → List ℕ → List Piece) (pieces : List ℕ → List Piece) (last : Bool) (outcome : EncoderResult) (s : EscapeState) (t w : List ℕ) (s' : EscapeState) (rest : List ℕ)
    → CallsAlong e p pieces last outcome s t w s' rest → CallIsRead e p pieces last outcome t w s' rest
reads_call e p pieces last outcome s t w s' rest c =
    let q = c.along.decided in
    let reads = reads_from e p c.steps last outcome q t (e.escape q s ++ w) s' rest c.scalars (encodes_from e last outcome q s t w s' rest c.coding c.along.next c.encodes) in
    (reads.0, reads.1, call_past e p (p q) pieces (e.escape q s) last outcome reads.0 w s' rest c.along.same reads.2)

-- ---- what a decoder that has read the bytes has taken

pub apart_parts : {X : Type 0} (a b x y : List X) → a ++ x ≡ b ++ y → ((m : List X) × (a ≡ b ++ m)) ⊎ ((m : List X) × (b ≡ a ++ m))
apart_parts [] b x y h = inr (b, refl)
apart_parts (p ∷ a) [] x y h = inl (p ∷ a, refl)
apart_parts (p ∷ a) (q ∷ b) x y h =
    let same : p ≡ q = cc in
    let behind : a ++ x ≡ b ++ y = cc in
    elim (apart_parts a b x y behind) [
      | inl m ↦ inl (m.0, rw same (ap (λ l. q ∷ l) m.1))
      | inr m ↦ inr (m.0, rw same (ap (λ l. q ∷ l) m.1))
    ]

nothing_more : (pieces after : List ℕ → List Piece) (m : List Piece) → DecidesNothing pieces → ((r : List ℕ) → pieces r ≡ m ++ after r) → m ≡ []
nothing_more pieces after [] h is = refl
nothing_more pieces after (p ∷ m) (inl none) is = let never : [] ≡ p ∷ (m ++ after []) = sym none ∙ is [] in absurd (cc)
nothing_more pieces after (p ∷ m) (inr waits) is = decides_nothing pieces [] (p ∷ m) waits (λ r bytes. (after r, is r))

-- of two lists of pieces after which nothing is decided, whatever follows
same_taken : (a b : List Piece) (F G : List ℕ → List Piece) → DecidesNothing F → DecidesNothing G → ((r : List ℕ) → a ++ F r ≡ b ++ G r) → a ≡ b
same_taken a b F G none nothing is = elim (apart_parts a b (F []) (G []) (is [])) [
  | inl m ↦
      let more : m.0 ≡ [] = nothing_more G F m.0 nothing (λ r. sym (append_cancel_left b (m.0 ++ F r) (G r) (sym (append_assoc b m.0 (F r)) ∙ ap (λ l. l ++ F r) (sym m.1) ∙ is r))) in
      m.1 ∙ ap (λ l. b ++ l) more ∙ append-nil b
  | inr m ↦
      let more : m.0 ≡ [] = nothing_more F G m.0 none (λ r. append_cancel_left a (F r) (m.0 ++ G r) (is r ∙ ap (λ l. l ++ G r) m.1 ∙ append_assoc a m.0 (G r))) in
      sym (m.1 ∙ ap (λ l. a ++ l) more ∙ append-nil a)
]

-- A list that the bytes decide is well-formed, and its text comes first in theirs.
pub decided_of_read : (pieces : List ℕ → List Piece) (w t : List ℕ) (Holds : (List ℕ → List Piece) → Type 0) → IsReadUpTo pieces w t Holds → (d : List Piece) → IsDecided pieces w d
    → AreWellFormed d × ((more : List ℕ) × (t ≡ text d ++ more))
decided_of_read pieces w t Holds h d is =
    let now = is [] tt in
    elim (apart_parts h.taken d (h.behind []) now.0 (sym (h.rest []) ∙ now.1)) [
      | inl m ↦ (
        (well_formed_parts d m.0 (subst AreWellFormed m.1 h.well_formed)).0,
        (text m.0, sym h.same ∙ ap text m.1 ∙ text-append d m.0),
      )
      | inr m ↦
          let more : m.0 ≡ [] = nothing_decided pieces w h.taken m.0 h.behind h.nothing h.rest (λ r bytes. let then = is r bytes in (then.0, then.1 ∙ ap (λ l. l ++ then.0) m.1 ∙ append_assoc h.taken m.0 then.0)) in
          let same : d ≡ h.taken = m.1 ∙ ap (λ l. h.taken ++ l) more ∙ append-nil h.taken in
          (subst AreWellFormed (sym same) h.well_formed, ([], sym h.same ∙ ap text (sym same) ∙ sym (append-nil (text d))))
    ]
  where
    nothing_decided : (pieces : List ℕ → List Piece) (w : List ℕ) (taken m : List Piece) (behind : List ℕ → List Piece) → DecidesNothing behind → ((r : List ℕ) → pieces (w ++ r) ≡ taken ++ behind r)
        → ((r : List ℕ) → AreBytes r → (rest : List Piece) × (pieces (w ++ r) ≡ taken ++ (m ++ rest))) → m ≡ []
    nothing_decided pieces w taken [] behind none rest is = refl
    nothing_decided pieces w taken (p ∷ m) behind (inl none) rest is =
        let now = is [] tt in
        let never : [] ≡ p ∷ (m ++ now.0) = sym none ∙ append_cancel_left taken (behind []) ((p ∷ m) ++ now.0) (sym (rest []) ∙ now.1) in
        absurd (cc)
    nothing_decided pieces w taken (p ∷ m) behind (inr waits) rest is =
        decides_nothing behind [] (p ∷ m) waits (λ r bytes. let then = is r bytes in (then.0, append_cancel_left taken (behind r) ((p ∷ m) ++ then.0) (sym (rest r) ∙ then.1)))

-- What a decoder has taken of the bytes, if it has decided what can be, is their text, and the decoder is after it.
pub taken_of_read : (pieces : List ℕ → List Piece) (w t : List ℕ) (Holds : (List ℕ → List Piece) → Type 0) → (h : IsReadUpTo pieces w t Holds) → (d : List Piece) (after : List ℕ → List Piece)
    → ((r : List ℕ) → pieces (w ++ r) ≡ d ++ after r) → DecidesNothing after → AreWellFormed d × (text d ≡ t) × ((r : List ℕ) → after r ≡ h.behind r)
taken_of_read pieces w t Holds h d after is nothing =
    let same : d ≡ h.taken = same_taken d h.taken after h.behind nothing h.nothing (λ r. sym (is r) ∙ h.rest r) in (
      subst AreWellFormed (sym same) h.well_formed,
      ap text same ∙ h.same,
      λ r. append_cancel_left d (after r) (h.behind r) (sym (is r) ∙ h.rest r ∙ ap (λ l. l ++ h.behind r) (sym same)),
    )

-- If it has taken the text, the bytes are not broken.
pub taken_is_not_broken : (pieces : List ℕ → List Piece) (w t : List ℕ) (d : List Piece) (after : List ℕ → List Piece) → ((r : List ℕ) → pieces (w ++ r) ≡ d ++ after r) → DecidesNothing after
    → AreWellFormed d → text d ≡ t → ¬ (IsBroken pieces w t)
taken_is_not_broken pieces w t d after is nothing good same broken =
    let read : IsReadUpTo pieces w t (λ P. Unit {0}) = record { taken = d; behind = after; well_formed = good; same = same; rest = is; nothing = nothing; holds = tt } in
    let part = decided_of_read pieces w t (λ P. Unit {0}) read broken.taken (λ r bytes. broken.decided r) in
    elim broken.wrong [
      | inl none ↦ none part.0
      | inr apart ↦ never_apart t (subst (λ l. TextsDiffer l t) (sym part.1.1) (apart_wider (text broken.taken) t part.1.0 apart))
    ]
  where
    apart_wider : (a b n : List ℕ) → TextsDiffer a b → TextsDiffer (a ++ n) b
    apart_wider a b n h = subst (λ l. TextsDiffer (a ++ n) l) (append-nil b) (apart_more a b n [] h)

-- ---- the text to come

same_holds : (e : Coding) (p : EscapeState → List ℕ → List Piece) (last : Bool) (outcome : EncoderResult) (s' : EscapeState) (rest : List ℕ) (P Q : List ℕ → List Piece) → ((r : List ℕ) → Q r ≡ P r)
    → HoldsAfter e p last outcome s' rest P → HoldsAfter e p last outcome s' rest Q
same_holds e p true InputEmpty s' rest P Q is h = record { well_formed = subst AreWellFormed (sym (is [])) h.well_formed; same = ap text (is []) ∙ h.same }
same_holds e p false InputEmpty s' rest P Q is h = record { decided = h.decided; next = h.next; same = λ x. is x ∙ h.same x }
same_holds e p last OutputFull s' rest P Q is h = record { decided = h.decided; next = h.next; same = λ x. is x ∙ h.same x }
same_holds e p last (Unmappable m) s' rest P Q is h = absurd h

-- If the pieces of the bytes have the text, what follows reads as it did.
pub reads_on : (pieces after : List ℕ → List Piece) (w t : List ℕ) (d : List Piece) → ((r : List ℕ) → pieces (w ++ r) ≡ d ++ after r) → AreWellFormed d → text d ≡ t
    → (x u : List ℕ) → ReadsAs pieces (w ++ x) (t ++ u) ↔ ReadsAs after x u
reads_on pieces after w t d is good same x u = (
  λ reads. record {
    well_formed = (well_formed_parts d (after x) (subst AreWellFormed (is x) reads.well_formed)).1;
    same = append_cancel_left t (text (after x)) u (ap (λ l. l ++ text (after x)) (sym same) ∙ sym (text-append d (after x)) ∙ ap text (sym (is x)) ∙ reads.same);
  },
  λ reads. record {
    well_formed = subst AreWellFormed (sym (is x)) (AreWellFormed-append d (after x) good reads.well_formed);
    same = ap text (is x) ∙ text-append d (after x) ∙ rw (same, reads.same) refl;
  },
)

pub broken_never_reads_on : (pieces : List ℕ → List Piece) (w t : List ℕ) → IsBroken pieces w t → (x u : List ℕ) → ¬ (ReadsAs pieces (w ++ x) (t ++ u))
broken_never_reads_on pieces w t h x u = broken_never_reads pieces (w ++ x) (t ++ u) (broken_stays pieces w t x u h)

-- The whole that a text stands for is what a call wrote and reported, and the whole that the rest stands for.
whole_of : (ref : Reference) (e : Coding) (s : EscapeState) (t w : List ℕ) (s' : EscapeState) (rest u : List ℕ) → WritesPart ref e s t w s' rest → last_set e s t ≡ last_set e s' rest
    → whole_from ref e s (t ++ u) ≡ w ++ whole_from ref e s' (rest ++ u)
whole_of ref e s t w s' rest u is sets =
    let ends : last_set e s (t ++ u) ≡ last_set e s' (rest ++ u) = last_set-append e s t u ∙ ap (λ q. last_set e q u) sets ∙ sym (last_set-append e s' rest u) in
    rw (is u, ends) (append_assoc w (open_from ref e s' (rest ++ u)) (e.escape (last_set e s' (rest ++ u)) Ascii))

whole_last : (ref : Reference) (e : Coding) (s : EscapeState) (t w : List ℕ) (s' : EscapeState) (rest u : List ℕ) → u ≡ [] → whole_from ref e s t ≡ w ++ whole_from ref e s' rest
    → whole_from ref e s (t ++ u) ≡ w ++ whole_from ref e s' (rest ++ u)
whole_last ref e s t w s' rest u none is = rw (none, append-nil t, append-nil rest) is

-- the bytes that a result asks for
abbrev reported_bytes : Reference → EncoderResult → List ℕ
reported_bytes ref InputEmpty = []
reported_bytes ref OutputFull = []
reported_bytes ref (Unmappable m) = reference_bytes ref m

whole_goes_on : (ref : Reference) (e : Coding) (last : Bool) (outcome : EncoderResult) (s : EscapeState) (t w : List ℕ) (s' : EscapeState) (rest u : List ℕ) → (IsTrue last → u ≡ [])
    → EncodesItems ref e last outcome s t w s' rest → AccountsForText ref e last outcome s t w s' rest
    → whole_from ref e s (t ++ u) ≡ (w ++ reported_bytes ref outcome) ++ whole_from ref e s' (rest ++ u)
whole_goes_on ref e last (Unmappable m) s t w s' rest u ends items h = whole_of ref e s t (w ++ reference_bytes ref m) s' rest u h (items.sets tt)
whole_goes_on ref e true InputEmpty s t w s' rest u ends items h = rw (append-nil w) (whole_last ref e s t w s' rest u (ends refl) h)
whole_goes_on ref e false InputEmpty s t w s' rest u ends items h = rw (append-nil w) (whole_of ref e s t w s' rest u h (items.sets refl))
whole_goes_on ref e true OutputFull s t w s' rest u ends items h = rw (append-nil w) (whole_last ref e s t w s' rest u (ends refl) h)
whole_goes_on ref e false OutputFull s t w s' rest u ends items h = rw (append-nil w) (whole_of ref e s t w s' rest u h (items.sets refl))

whole_is : (ref : Reference) {need : ℕ} (e : Coding) (last : Bool) (outcome : EncoderResult) (s : EscapeState) (t w : List ℕ) (s' : EscapeState) (rest u : List ℕ) → IsCoding need e → (IsTrue last → u ≡ [])
    → Encodes e last outcome s t w s' rest → whole_from ref e s (t ++ u) ≡ (w ++ reported_bytes ref outcome) ++ whole_from ref e s' (rest ++ u)
whole_is ref e last outcome s t w s' rest u coding ends c =
    whole_goes_on ref e last outcome s t w s' rest u ends (encoded_items ref e last outcome s t w s' rest coding c) (encoded_bytes ref e last outcome s t w s' rest coding c)

none_reported : (ref : Reference) (outcome : EncoderResult) → IsNotUnmappable outcome → reported_bytes ref outcome ≡ []
none_reported ref InputEmpty h = refl
none_reported ref OutputFull h = refl
none_reported ref (Unmappable m) h = absurd (h m refl)

-- that of a call that reports nothing
whole_written : (ref : Reference) {need : ℕ} (e : Coding) (last : Bool) (outcome : EncoderResult) (s : EscapeState) (t w : List ℕ) (s' : EscapeState) (rest u : List ℕ) → IsCoding need e → (IsTrue last → u ≡ [])
    → IsNotUnmappable outcome → Encodes e last outcome s t w s' rest → whole_from ref e s (t ++ u) ≡ w ++ whole_from ref e s' (rest ++ u)
whole_written ref e last outcome s t w s' rest u coding ends kept c =
    whole_is ref e last outcome s t w s' rest u coding ends c ∙ rw (none_reported ref outcome kept, append-nil w) refl

-- what was read before the rest
same_prefix : (t a b rest : List ℕ) → t ≡ a ++ rest → t ≡ b ++ rest → a ≡ b
same_prefix t a b rest h k = append_cancel_right a b rest (sym h ∙ k)

either_read : (e : Coding) (p : EscapeState → List ℕ → List Piece) (pieces : List ℕ → List Piece) (last : Bool) (outcome : EncoderResult) (prefix w : List ℕ) (s' : EscapeState) (rest : List ℕ) → IsNotUnmappable outcome
    → PrefixIsRead e p pieces last outcome prefix w s' rest → IsReadUpTo pieces w prefix (HoldsAfter e p last outcome s' rest) ⊎ IsBroken pieces w prefix
either_read e p pieces last InputEmpty prefix w s' rest kept h = h
either_read e p pieces last OutputFull prefix w s' rest kept h = h
either_read e p pieces last (Unmappable m) prefix w s' rest kept h = absurd (kept m refl)

call_read : (e : Coding) (p : EscapeState → List ℕ → List Piece) (pieces : List ℕ → List Piece) (last : Bool) (outcome : EncoderResult) (s : EscapeState) (t w : List ℕ) (s' : EscapeState) (rest : List ℕ)
    → CallsAlong e p pieces last outcome s t w s' rest → IsNotUnmappable outcome → (prefix : List ℕ) → t ≡ prefix ++ rest
    → IsReadUpTo pieces w prefix (HoldsAfter e p last outcome s' rest) ⊎ IsBroken pieces w prefix
call_read e p pieces last outcome s t w s' rest c kept prefix split =
    let reads = reads_call e p pieces last outcome s t w s' rest c in
    let same : reads.0 ≡ prefix = same_prefix t reads.0 prefix rest reads.1 split in
    either_read e p pieces last outcome prefix w s' rest kept (subst (λ l. PrefixIsRead e p pieces last outcome l w s' rest) same reads.2)

-- If the decoder has taken what the call read, it reads along, and what is to come reads as before.
agreed_holds : (e : Coding) (p : EscapeState → List ℕ → List Piece) (pieces now : List ℕ → List Piece) (last : Bool) (outcome : EncoderResult) (s : EscapeState) (t w : List ℕ) (s' : EscapeState) (rest : List ℕ)
    → CallsAlong e p pieces last outcome s t w s' rest → IsNotUnmappable outcome → (prefix : List ℕ) → t ≡ prefix ++ rest → (taken : List Piece) → HasTaken pieces now w taken → AreWellFormed taken → text taken ≡ prefix
    → HoldsAfter e p last outcome s' rest now
agreed_holds e p pieces now last outcome s t w s' rest c kept prefix split taken has good same = elim (call_read e p pieces last outcome s t w s' rest c kept prefix split) [
  | inl read ↦ same_holds e p last outcome s' rest read.behind now (taken_of_read pieces w prefix (HoldsAfter e p last outcome s' rest) read taken now has.rest has.nothing).2 read.holds
  | inr broken ↦ absurd (taken_is_not_broken pieces w prefix taken now has.rest has.nothing good same broken)
]

pub agreed_whole : {need : ℕ} (e : Coding) (pieces now : List ℕ → List Piece) (last : Bool) (outcome : EncoderResult) (s : EscapeState) (t w : List ℕ) (s' : EscapeState) (rest : List ℕ) → IsCoding need e
    → Encodes e last outcome s t w s' rest → IsNotUnmappable outcome → (prefix : List ℕ) → t ≡ prefix ++ rest → (taken : List Piece) → ((r : List ℕ) → pieces (w ++ r) ≡ taken ++ now r) → AreWellFormed taken → text taken ≡ prefix
    → ReadsWholeAs e last pieces now s t s' rest
agreed_whole e pieces now last outcome s t w s' rest coding c kept prefix split taken has good same ref u ends =
    let whole = whole_written ref e last outcome s t w s' rest u coding ends kept c in
    let all : t ++ u ≡ prefix ++ (rest ++ u) = ap (λ l. l ++ u) split ∙ append_assoc prefix rest u in
    rw (whole, all) (reads_on pieces now w prefix taken has good same (whole_from ref e s' (rest ++ u)) (rest ++ u))

-- If it has taken another text, or a malformed sequence, what is to come is never read as the text.
broken_whole : {need : ℕ} (e : Coding) (pieces : List ℕ → List Piece) (last : Bool) (outcome : EncoderResult) (s : EscapeState) (t w : List ℕ) (s' : EscapeState) (rest : List ℕ) → IsCoding need e
    → Encodes e last outcome s t w s' rest → (prefix : List ℕ) → t ≡ prefix ++ rest → ((ref : Reference) → IsBroken pieces (w ++ reported_bytes ref outcome) prefix) → NeverReadsWhole e last pieces s t
broken_whole e pieces last outcome s t w s' rest coding c prefix split broken ref u ends =
    let whole = whole_is ref e last outcome s t w s' rest u coding ends c in
    let all : t ++ u ≡ prefix ++ (rest ++ u) = ap (λ l. l ++ u) split ∙ append_assoc prefix rest u in
    rw (whole, all) (broken_never_reads_on pieces (w ++ reported_bytes ref outcome) prefix (broken ref) (whole_from ref e s' (rest ++ u)) (rest ++ u))

broken_call : {need : ℕ} (e : Coding) (pieces : List ℕ → List Piece) (last : Bool) (outcome : EncoderResult) (s : EscapeState) (t w : List ℕ) (s' : EscapeState) (rest : List ℕ) → IsCoding need e
    → Encodes e last outcome s t w s' rest → (prefix : List ℕ) → t ≡ prefix ++ rest → IsBroken pieces w prefix → NeverReadsWhole e last pieces s t
broken_call e pieces last outcome s t w s' rest coding c prefix split broken =
    broken_whole e pieces last outcome s t w s' rest coding c prefix split (λ ref. broken_behind pieces w prefix (reported_bytes ref outcome) broken)

differing_never_reads : (e : Coding) (p : EscapeState → List ℕ → List Piece) (pieces now : List ℕ → List Piece) (last : Bool) (outcome : EncoderResult) (s : EscapeState) (t w : List ℕ) (s' : EscapeState) (rest : List ℕ)
    → CallsAlong e p pieces last outcome s t w s' rest → IsNotUnmappable outcome → (prefix : List ℕ) → t ≡ prefix ++ rest → (taken : List Piece) → HasTaken pieces now w taken → ¬ (AreWellFormed taken × (text taken ≡ prefix))
    → NeverReadsWhole e last pieces s t
differing_never_reads e p pieces now last outcome s t w s' rest c kept prefix split taken has differs = elim (call_read e p pieces last outcome s t w s' rest c kept prefix split) [
  | inl read ↦
      let same = taken_of_read pieces w prefix (HoldsAfter e p last outcome s' rest) read taken now has.rest has.nothing in
      absurd (differs (same.0, same.1))
  | inr broken ↦ broken_call e pieces last outcome s t w s' rest c.coding c.encodes prefix split broken
]

pub verdict_of_call : (e : Coding) (p : EscapeState → List ℕ → List Piece) (pieces : List ℕ → List Piece) (last : Bool) (outcome : EncoderResult) (s : EscapeState) (t w : List ℕ) (s' : EscapeState) (rest : List ℕ)
    → CallsAlong e p pieces last outcome s t w s' rest → IsNotUnmappable outcome → (prefix : List ℕ) → t ≡ prefix ++ rest → (now : List ℕ → List Piece) (taken : List Piece) → HasTaken pieces now w taken
    → CallVerdict e p pieces now last outcome s t prefix taken s' rest
verdict_of_call e p pieces last outcome s t w s' rest c kept prefix split now taken has = record {
  along = agreed_holds e p pieces now last outcome s t w s' rest c kept prefix split taken has;
  agrees = agreed_whole e pieces now last outcome s t w s' rest c.coding c.encodes kept prefix split taken has.rest;
  differs = differing_never_reads e p pieces now last outcome s t w s' rest c kept prefix split taken has;
}

-- The same of the first of its pieces.
pub differing_part_never_reads : (e : Coding) (p : EscapeState → List ℕ → List Piece) (pieces : List ℕ → List Piece) (last : Bool) (outcome : EncoderResult) (s : EscapeState) (t w : List ℕ) (s' : EscapeState) (rest : List ℕ)
    → CallsAlong e p pieces last outcome s t w s' rest → IsNotUnmappable outcome → (prefix : List ℕ) → t ≡ prefix ++ rest → (part : List Piece) → IsDecided pieces w part → ¬ (AreRead part prefix)
    → NeverReadsWhole e last pieces s t
differing_part_never_reads e p pieces last outcome s t w s' rest c kept prefix split part decided differs = elim (call_read e p pieces last outcome s t w s' rest c kept prefix split) [
  | inl read ↦ absurd (differs (decided_of_read pieces w prefix (HoldsAfter e p last outcome s' rest) read part decided))
  | inr broken ↦ broken_call e pieces last outcome s t w s' rest c.coding c.encodes prefix split broken
]

-- Nor is it if a character is lost.
pub lost_never_reads : (e : Coding) (p : EscapeState → List ℕ → List Piece) (pieces : List ℕ → List Piece) (last : Bool) (m : ℕ) (s : EscapeState) (t w : List ℕ) (s' : EscapeState) (rest : List ℕ)
    → CallsAlong e p pieces last (Unmappable m) s t w s' rest → NeverReadsWhole e last pieces s t
lost_never_reads e p pieces last m s t w s' rest c =
    let reads = reads_call e p pieces last (Unmappable m) s t w s' rest c in
    broken_whole e pieces last (Unmappable m) s t w s' rest c.coding c.encodes reads.0 reads.1 reads.2

-- Reading along begins when nothing was read, or all of it was decided; a text that was read leaves the next to be
-- read; and it ends when nothing is left.
pub begins_along : {need : ℕ} (e : Coding) (p : EscapeState → List ℕ → List Piece) → IsCoding need e → (pieces : List ℕ → List Piece) (s : EscapeState) (t : List ℕ) → ((x : List ℕ) → pieces x ≡ p s x) → ReadsAlong e p pieces s t
begins_along e p coding pieces s t is = record { decided = s; next = inl refl; same = λ x. is x ∙ ap (λ y. p s (y ++ x)) (sym (coding.same s)) }

pub next_along : (e : Coding) (p : EscapeState → List ℕ → List Piece) (pieces : List ℕ → List Piece) (s : EscapeState) (t : List ℕ) → ReadsAlong e p pieces s [] → ReadsAlong e p pieces s t
next_along e p pieces s t h = record { decided = h.decided; next = elim h.next [ inl same ↦ inl same | inr none ↦ absurd none ]; same = h.same }

pub ends_along : (ref : Reference) {need : ℕ} (e : Coding) → IsCoding need e → (pieces : List ℕ → List Piece) → ReadsAs pieces [] [] → ReadsWhole ref e pieces Ascii []
ends_along ref e coding pieces h = rw (coding.same Ascii) h
