-- What a call of an encoder makes of the verdict, if it was read back, and if something is lost. How what is read
-- back is compared with its text. What a verdict can say if nothing was written.
use Rattle.recode.specs.Work.{IsCounted}
use Rattle.std.proofs.Common.{◌≡◌, ◌⊎◌, ◌↔◌, ℕ, Bool, true, false, IsTrue, IsFalse, List, [], ◌∷◌, ◌++◌, refl, sym, ◌∙◌, ap, subst, inl, inr, Some, drop, append_assoc, append-nil, ◌+◌, ◌-◌, ◌^◌, ◌≤◌, ◌<◌, arith}
use Rattle.std.proofs.Math.Logic.{∥∥₁_elim, ∥∥₁_map}
use Rattle.std.proofs.Props.{props}
use Rattle.std.specs.Str.{all_scalars}
use Rattle.std.proofs.lemmas.Bool.{cases_Bool, false≢true}
use Rattle.encoding_mem.specs.Coding.{Coding, IsCoding}
use Rattle.encoding_mem.specs.calls.EncoderCalls.{Encodes}
use Rattle.encoding_mem.specs.Piece.{Piece, well_formed, malformed, text, AreWellFormed}
use Rattle.encoding_mem.specs.ReadBack.{ReadsAs}
use Rattle.encoding_mem.specs.calls.ReadCalls.{CallsAlong, HoldsAfter, KeepsVerdict, IsNotUnmappable, ReadsAlong, AreRead, HasTakenPart}
use Rattle.encoding_mem.specs.laws.ReadCalls.{begins_along, differing_part_never_reads, ends_along, lost_never_reads, next_along, verdict_of_call}
use Rattle.encoding_mem.specs.laws.Verdict.{keeps_agreed, keeps_false, keeps_lost, part_begins, part_ends, part_is_decided}
use Rattle.encoding_mem.specs.declared.codec.form.EscapeState.{EscapeState}
use Rattle.encoding_mem.specs.declared.codec.form.EscapeState.TheVariants.{Ascii}
use Rattle.encoding_mem.specs.declared.codec.reference.Reference.{Reference}
use Rattle.encoding_mem.specs.declared.codec.encoder_result.EncoderResult.{EncoderResult}
use Rattle.encoding_mem.specs.declared.codec.encoder_result.EncoderResult.TheVariants.{Unmappable}
use Rattle.recode.specs.calls.Verdict.{CanTell, IsFaithfulFor, IsReadAlong, IsReadBack, IsToldAtEnd, IsToldByLog, VerdictIsKept, ReadsAsOther, ReadsAsText, VerdictView, to_read}
use Rattle.std.specs.Bool.{MatchBool}
use Rattle.std.proofs.lemmas.List.{append_cancel_left}
use Rattle.encoding_mem.specs.calls.Decoding.{DecoderState, Waits}
use Rattle.encoding_mem.specs.laws.Agreement.{well_formed_parts}
use Rattle.encoding_mem.specs.laws.Piece.{AreWellFormed-append, text-append, well_formed_text}
use Rattle.encoding_mem.specs.declared.codec.decoder_result.DecoderResult.{DecoderResult}
use Rattle.encoding_mem.specs.declared.codec.decoder_result.DecoderResult.TheVariants.{InputEmpty, OutputFull, Malformed}
use Rattle.recode.specs.calls.Turns.{reported}
use Rattle.recode.proofs.CodecCallLemmas.{IsDecoded}
use Rattle.encoding_front.specs.Encodings.{KeepsCharacters, output_encoding_of, pieces_of, set_pieces_of}
use Rattle.encoding_front.specs.calls.Stream.{DecoderView, IsNewDecoder}
use Rattle.encoding_front.specs.laws.Encoder.{coding_laws, kept_verdict}
use Rattle.encoding_front.specs.laws.Encodings.{reads_by_step, set_pieces_anywhere, set_pieces_at_start}
use Rattle.encoding_front.specs.declared.mark.Mark.TheVariants.{Keep}
use Rattle.recode.specs.Job.{Faithful, IsValidJob, input_pieces, input_text, output_pieces, target_of}
use Rattle.recode.specs.Policy.{reference_form}
use Rattle.recode.specs.declared.job.Job.{Job}
use Rattle.recode.proofs.StopLemmas.{mapped_where_faithful, mapped_where_read, output_where_mapped}

-- ---- facts that have one proof

are_well_formed_prop : (ps : List Piece) (a b : AreWellFormed ps) → a ≡ b
are_well_formed_prop [] a b = refl
are_well_formed_prop (well_formed n cs ∷ ps) a b = ap (λ x. (tt, x)) (are_well_formed_prop ps a.1 b.1)
are_well_formed_prop (malformed n ∷ ps) a b = absurd a.0

-- one call of an encoder that reads some of a text, and what the reader makes of its bytes
module _ (e : Coding) (need : ℕ) (coding : IsCoding need e) (last : Bool) (outcome : EncoderResult) (v v' : VerdictView) (s : EscapeState) (t w : List ℕ) (s' : EscapeState) (rest read : List ℕ)
    (scalars : all_scalars t ≡ true) (encodes : Encodes e last outcome s t w s' rest) (kept : IsNotUnmappable outcome) (split : t ≡ read ++ rest) (back : IsReadBack v v' w read) where
  calls_along : (k : IsReadAlong v e s t) → IsTrue v.faithful → CallsAlong e k.pieces_from (to_read v) last outcome s t w s' rest
  calls_along k faithful = record { need = need; coding = coding; steps = k.steps; scalars = scalars; encodes = encodes; along = k.along faithful }

  other_keeps : (k : IsReadAlong v e s t) → IsTrue v.faithful → ReadsAsOther (to_read v) (to_read v') w read → v'.faithful ≡ false → VerdictIsKept e last v s t v' s' rest
  other_keeps k faithful (inl part) is =
      rw is (keeps_lost e last v.faithful (to_read v) (to_read v') s t s' rest
      (differing_part_never_reads e k.pieces_from (to_read v) last outcome s t w s' rest (calls_along k faithful) kept read split part.0 (λ r bytes. part.1 r) part.2))
  other_keeps k faithful (inr whole) is =
      rw is (keeps_lost e last v.faithful (to_read v) (to_read v') s t s' rest
      ((verdict_of_call e k.pieces_from (to_read v) last outcome s t w s' rest (calls_along k faithful) kept read split (to_read v') whole.0 whole.1).differs whole.2))

  text_keeps : (k : IsReadAlong v e s t) → IsTrue v.faithful → ReadsAsText (to_read v) (to_read v') w read → v'.faithful ≡ true → VerdictIsKept e last v s t v' s' rest
  text_keeps k faithful h is =
      rw (faithful, is) (keeps_agreed e last (to_read v) (to_read v') s t s' rest
      ((verdict_of_call e k.pieces_from (to_read v) last outcome s t w s' rest (calls_along k faithful) kept read split (to_read v') h.taken h.has).agrees h.well_formed h.same))

  along_keeps : IsReadAlong v e s t → VerdictIsKept e last v s t v' s' rest
  along_keeps k = elim (cases_Bool v.faithful) [
    | inr lost ↦ rw (back.kept (inr lost), lost) (keeps_false e last (to_read v) (to_read v) s t s' rest)
    | inl faithful ↦ elim (cases_Bool v.by_log) [
      | inl by_log ↦ rw (back.kept (inl by_log), faithful) ((k.told by_log).keeps last outcome s t w s' rest scalars encodes kept)
      | inr no_log ↦ elim (cases_Bool v'.faithful) [
        | inl is ↦ text_keeps k faithful (rw is at (back.compared no_log faithful)) is
        | inr is ↦ other_keeps k faithful (rw is at (back.compared no_log faithful)) is
      ]
    ]
  ]

  -- the verdict is kept
  pub read_keeps : CanTell v e s t → VerdictIsKept e last v s t v' s' rest
  read_keeps h = ∥∥₁_elim h.along (hlevel (props, are_well_formed_prop)) along_keeps

  -- what holds of the reader then
  pub read_holds : (k : IsReadAlong v e s t) → IsFalse v.by_log → IsTrue v'.faithful → HoldsAfter e k.pieces_from last outcome s' rest (to_read v')
  read_holds k no_log faithful' = elim (cases_Bool v.faithful) [
    | inr lost ↦ absurd (false≢true (sym (ap (λ u. u.faithful) (back.kept (inr lost)) ∙ lost) ∙ faithful'))
    | inl faithful ↦
        let h : ReadsAsText (to_read v) (to_read v') w read = rw faithful' at (back.compared no_log faithful) in
        (verdict_of_call e k.pieces_from (to_read v) last outcome s t w s' rest (calls_along k faithful) kept read split (to_read v') h.taken h.has).along h.well_formed h.same
  ]

  told_still : (k : IsReadAlong v e s t) → IsTrue v'.by_log → IsToldByLog e k.pieces_from (to_read v')
  told_still k by_log =
      let was : IsTrue v.by_log = sym back.by_log ∙ by_log in rw (back.kept (inl was)) (k.told was)

  along_still : (k : IsReadAlong v e s t) → ((IsFalse v.by_log) → IsTrue v'.faithful → ReadsAlong e k.pieces_from (to_read v') s' rest) → IsTrue v'.faithful → ReadsAlong e k.pieces_from (to_read v') s' rest
  along_still k holds faithful' = elim (cases_Bool v.by_log) [
    | inl by_log ↦ begins_along e k.pieces_from coding (to_read v') s' rest (λ x. ap (λ P. P x) (sym ((told_still k (back.by_log ∙ by_log)).anywhere s')))
    | inr no_log ↦ holds no_log faithful'
  ]

  -- if there is more to read, the verdict can be known still
  pub still_tells : ((from : EscapeState → List ℕ → List Piece) → HoldsAfter e from last outcome s' rest (to_read v') → ReadsAlong e from (to_read v') s' rest) → CanTell v e s t → CanTell v' e s' rest
  still_tells along h = record {
    open_ = back.open_;
    along = ∥∥₁_map {B = IsReadAlong v' e s' rest} h.along (λ (k : IsReadAlong v e s t). record {
      pieces_from = k.pieces_from;
      steps = k.steps;
      along = along_still k (λ no_log faithful'. along k.pieces_from (read_holds k no_log faithful'));
      told = told_still k;
    });
  }

  -- and if the text was the last, what is pending in the reader is no text
  pub end_tells : ((from : EscapeState → List ℕ → List Piece) → HoldsAfter e from last outcome s' rest (to_read v') → ReadsAs (to_read v') [] []) → CanTell v e s t → IsToldAtEnd v'
  end_tells ends h faithful' = ∥∥₁_elim h.along (hlevel (props, are_well_formed_prop)) (λ (k : IsReadAlong v e s t). elim (cases_Bool v.by_log) [
    | inl by_log ↦
        let none : to_read v' [] ≡ [] = ap (λ u. to_read u []) (back.kept (inl by_log)) ∙ ap (λ P. P []) (sym ((k.told by_log).anywhere s)) ∙ k.steps.nothing s in
        record { well_formed = subst AreWellFormed (sym none) tt; same = ap text none }
    | inr no_log ↦ ends k.pieces_from (read_holds k no_log faithful')
  ])

-- ---- something is lost

-- a verdict that is false, with the same reader
abbrev pub lost_of : VerdictView → VerdictView
lost_of v = record v { faithful = false }

pub lost_tells : (e : Coding) (v : VerdictView) (s : EscapeState) (t : List ℕ) (s' : EscapeState) (rest : List ℕ) → CanTell v e s t → CanTell (lost_of v) e s' rest
lost_tells e v s t s' rest h = record {
  open_ = h.open_;
  along = ∥∥₁_map {B = IsReadAlong (lost_of v) e s' rest} h.along (λ (k : IsReadAlong v e s t). record {
    pieces_from = k.pieces_from;
    steps = k.steps;
    along = λ never. absurd (false≢true never);
    told = k.told;
  });
}

pub unmapped_keeps : (e : Coding) (need : ℕ) → IsCoding need e → (last : Bool) (m : ℕ) (v : VerdictView) (s : EscapeState) (t w : List ℕ) (s' : EscapeState) (rest : List ℕ)
    → all_scalars t ≡ true → Encodes e last (Unmappable m) s t w s' rest → CanTell v e s t → VerdictIsKept e last v s t (lost_of v) s' rest
unmapped_keeps e need coding last m v s t w s' rest scalars encodes h = ∥∥₁_elim h.along (hlevel (props, are_well_formed_prop)) (λ (k : IsReadAlong v e s t). elim (cases_Bool v.faithful) [
  | inl faithful ↦ keeps_lost e last v.faithful (to_read v) (to_read v) s t s' rest
      (lost_never_reads e k.pieces_from (to_read v) last m s t w s' rest (record { need = need; coding = coding; steps = k.steps; scalars = scalars; encodes = encodes; along = k.along faithful }))
  | inr lost ↦ subst (λ b. KeepsVerdict e last b (to_read v) s t false (to_read v) s' rest) (sym lost) (keeps_false e last (to_read v) (to_read v) s t s' rest)
])

-- ---- from text to text

pub next_tells : (e : Coding) (v : VerdictView) (s : EscapeState) (t : List ℕ) → CanTell v e s [] → CanTell v e s t
next_tells e v s t h = record {
  open_ = h.open_;
  along = ∥∥₁_map {B = IsReadAlong v e s t} h.along (λ (k : IsReadAlong v e s []). record {
    pieces_from = k.pieces_from;
    steps = k.steps;
    along = λ faithful. next_along e k.pieces_from (to_read v) s t (k.along faithful);
    told = k.told;
  });
}

-- ---- a call of the decoder

pub both_ways : {A B C : Type 0} → A ↔ B → B ↔ C → A ↔ C
both_ways h k = (λ a. k.0 (h.0 a), λ c. h.1 (k.1 c))

-- if all is written, the verdict is known
pub verdict_told : (ref : Reference) (e : Coding) (need : ℕ) → IsCoding need e → (v : VerdictView) (s : EscapeState) (ps : List Piece) → ps ≡ [] → s ≡ Ascii → IsToldAtEnd v → IsFaithfulFor ref v e s ps ↔ IsTrue v.faithful
verdict_told ref e need coding v s ps none closed told = rw (none, closed) (λ h. h.0, λ h. (h, tt, ends_along ref e coding (to_read v) (told h)))

-- Of bytes that were written for a text, some were read: they are the text, up to what is expected yet.
pub record HasCompared (before now : List ℕ → List Piece) (bytes left t expected : List ℕ) : Type 0 where
  pub taken : List Piece
  pub has : HasTakenPart before now bytes left taken
  pub well_formed : AreWellFormed taken
  pub same : t ≡ text taken ++ expected

pub compares_start : (before : List ℕ → List Piece) (bytes t : List ℕ) → HasCompared before before bytes bytes t t
compares_start before bytes t = record { taken = []; has = part_begins before bytes; well_formed = tt; same = refl }

-- one call more
module _ (before : List ℕ → List Piece) (s s' : DecoderState) (bytes left t expected : List ℕ) (read : ℕ) (answer : DecoderResult) (part : List ℕ)
    (h : HasCompared before s.pieces bytes left t expected) (k : IsDecoded s s' left false read answer part) where
  abbrev now_taken : List Piece
  now_taken = h.taken ++ (k.front ++ reported (Some answer))

  taken_on : HasTakenPart before s'.pieces bytes (drop read left) now_taken
  taken_on = record {
    rest = λ r. h.has.rest r
        ∙ ap (λ l. h.taken ++ l) (k.rest r (λ never. absurd (false≢true never)) ∙ sym (append_assoc k.front (reported (Some answer)) (s'.pieces (drop read left ++ r))))
        ∙ sym (append_assoc h.taken (k.front ++ reported (Some answer)) (s'.pieces (drop read left ++ r)));
  }

  text_now : reported (Some answer) ≡ [] → text (k.front ++ reported (Some answer)) ≡ part
  text_now none = ap (λ ps. text (k.front ++ ps)) none ∙ ap text (append-nil k.front) ∙ well_formed_text k.front k.fine ∙ sym k.text_is

  -- a part that is the next of the text
  pub compares_more : reported (Some answer) ≡ [] → (more : List ℕ) → expected ≡ part ++ more → HasCompared before s'.pieces bytes (drop read left) t more
  compares_more none more is = record {
    taken = now_taken;
    has = taken_on;
    well_formed = AreWellFormed-append h.taken (k.front ++ reported (Some answer)) h.well_formed (rw (none, append-nil k.front) k.fine);
    same = h.same ∙ ap (λ l. text h.taken ++ l) (is ∙ ap (λ l. l ++ more) (sym (text_now none))) ∙ sym (append_assoc (text h.taken) (text (k.front ++ reported (Some answer))) more)
        ∙ ap (λ l. l ++ more) (sym (text-append h.taken (k.front ++ reported (Some answer))));
  }

  -- a malformed sequence, or a part that is another
  other : (AreRead now_taken t → ⊥) → ReadsAsOther before s'.pieces bytes t
  other never = inl (now_taken, part_is_decided before s'.pieces bytes (drop read left) now_taken taken_on, never)

  pub compares_malformed : (a b : ℕ) → answer ≡ Malformed a b → ReadsAsOther before s'.pieces bytes t
  compares_malformed a b is = other (λ read_. let fine = (well_formed_parts k.front (reported (Some answer)) (well_formed_parts h.taken (k.front ++ reported (Some answer)) read_.0).1).1 in (rw is at fine).0)

  pub compares_other : reported (Some answer) ≡ [] → (((more : List ℕ) × (expected ≡ part ++ more)) → ⊥) → ReadsAsOther before s'.pieces bytes t
  compares_other none differs = other (λ read_.
      let rest : List ℕ = read_.1.0 in
      let now : text now_taken ≡ text h.taken ++ part = text-append h.taken (k.front ++ reported (Some answer)) ∙ ap (λ l. text h.taken ++ l) (text_now none) in
      differs (rest, append_cancel_left (text h.taken) expected (part ++ rest) (sym h.same ∙ read_.1.1 ∙ ap (λ l. l ++ rest) now ∙ append_assoc (text h.taken) part rest)))

-- whatever the call's result is, if the part is not the next of the text
pub compares_differing : (before : List ℕ → List Piece) (s s' : DecoderState) (bytes left t expected : List ℕ) (read : ℕ) (answer : DecoderResult) (part : List ℕ) → HasCompared before s.pieces bytes left t expected → IsDecoded s s' left false read answer part
    → (((more : List ℕ) × (expected ≡ part ++ more)) → ⊥) → ReadsAsOther before s'.pieces bytes t
compares_differing before s s' bytes left t expected read InputEmpty part h k differs = compares_other before s s' bytes left t expected read InputEmpty part h k refl differs
compares_differing before s s' bytes left t expected read OutputFull part h k differs = compares_other before s s' bytes left t expected read OutputFull part h k refl differs
compares_differing before s s' bytes left t expected read (Malformed a b) part h k differs = compares_malformed before s s' bytes left t expected read (Malformed a b) part h k a b refl

-- if all is read, nothing may be left of the text
pub compares_end : (before : List ℕ → List Piece) (s : DecoderState) (bytes left t expected : List ℕ) (b : Bool) → IsTrue b ↔ (expected ≡ []) → HasCompared before s.pieces bytes left t expected
    → (left ≡ []) × (((s.pending ≡ 0) × (s.pieces [] ≡ [])) ⊎ ((false ≡ false) × Waits s.pieces s.pending)) → MatchBool b (ReadsAsText before s.pieces bytes t) (ReadsAsOther before s.pieces bytes t)
compares_end before s bytes left t expected true is h ends = record {
  taken = h.taken;
  has = part_ends before s bytes left h.taken 0 0 0 h.has ends;
  well_formed = h.well_formed;
  same = sym (rw (is.0 refl, append-nil (text h.taken)) at h.same);
}
compares_end before s bytes left t expected false is h ends = inr (
  h.taken,
  part_ends before s bytes left h.taken 0 0 0 h.has ends,
  λ whole. false≢true (is.1 (append_cancel_left (text h.taken) expected [] (sym h.same ∙ sym whole.1 ∙ sym (append-nil (text h.taken))))),
)

-- a verdict of which this reads back
abbrev pub new_of : DecoderView → Bool → VerdictView
new_of reader by_log = record { reader = reader; by_log = by_log; faithful = true }

module _ (j : Job) (valid : IsValidJob j) (reader : DecoderView) (new : IsNewDecoder reader j.tables.now Keep (output_encoding_of j.to)) (by_log : Bool) (is : IsTrue by_log ↔ KeepsCharacters j.to) where
  reads_output : reader.state.pieces ≡ pieces_of j.tables.now (output_encoding_of j.to)
  reads_output = λ i x. new.pieces x i

  reads_along : IsReadAlong (new_of reader by_log) (target_of j) Ascii []
  reads_along = record {
    pieces_from = set_pieces_of j.tables.now j.to;
    steps = reads_by_step j.tables.now j.to valid.tables;
    along = λ faithful. begins_along (target_of j) (set_pieces_of j.tables.now j.to) (coding_laws j.tables.now j.to) reader.state.pieces Ascii []
        (λ x. new.pieces x ∙ ap (λ P. P x) (sym (set_pieces_at_start j.tables.now j.to)));
    told = λ alone. record {
      anywhere = λ s. set_pieces_anywhere j.tables.now j.to (is.0 alone) s ∙ sym reads_output;
      keeps = λ last outcome s t w s' rest scalars encodes kept.
          subst (λ (P : List ℕ → List Piece). KeepsVerdict (target_of j) last true P s t true P s' rest) (sym reads_output)
          (kept_verdict j.tables.now j.to (is.0 alone) valid.tables last outcome s t w s' rest scalars encodes kept);
    };
  }

  pub new_can_tell : CanTell (new_of reader by_log) (target_of j) Ascii []
  new_can_tell = record { open_ = new.open_; along = ∣ reads_along ∣₁ }

  -- what it will be is what the definition says
  pub new_verdict : (x : List ℕ) (ps : List Piece) → ps ≡ input_pieces j x → IsFaithfulFor (reference_form j.policy) (new_of reader by_log) (target_of j) Ascii ps ↔ Faithful j x
  new_verdict x ps are = rw (are, reads_output) (
    λ h. let read = subst (λ y. ReadsAs (output_pieces j) y (input_text j x)) (sym (output_where_mapped j x valid (mapped_where_read j x valid h.2))) h.2 in
        record { source = h.1; target = read.well_formed; same = read.same },
    λ f. (
      refl,
      f.source,
      subst (λ y. ReadsAs (output_pieces j) y (input_text j x)) (output_where_mapped j x valid (mapped_where_faithful j x valid f)) (record { well_formed = f.target; same = f.same }),
    ),
  )

-- ---- how calls add up

-- one more call after some, of which at most so many are left
pub counted_more : (calls calls1 calls2 left most : ℕ) → (calls1 < 2 ^ 64 - 1 → calls ≤ calls1) → calls1 + left ≤ calls + most → IsCounted 1 1 calls1 calls2 → IsCounted 1 (most + 1) calls calls2
counted_more calls calls1 calls2 left most up few one = record {
  at_least = λ under. let call = one.at_least under in omega (arith, call, up (omega (arith, call, under)));
  at_most = omega (arith, few, one.at_most);
}
