-- How long a reference can be. Calls with replacement: what the calls without replacement and the references
-- between them make together. How a call with replacement ends. A turn of a call with replacement: one call
-- without, and the reference that it asks for. A whole text through last calls with replacement, one after another.
use Rattle.std.proofs.Common.{ℕ, ◌≡◌, ◌≤◌, ◌<◌, List, length, ap, arith, ◌↔◌, ◌+◌, Bool, true, false, IsTrue, [], ◌∷◌, ◌++◌, refl, sym, ◌∙◌, append_assoc, length-append, ◌-◌, ◌⊎◌, inl, inr, subst, take, drop, length-drop, ◌||◌, zero, suc}
use Rattle.std.proofs.lemmas.Fmt.{length-decimal-le}
use Rattle.std.specs.Fmt.{decimal}
use Rattle.std.proofs.lemmas.List.{append-nil, append_cancel_right, drop-drop, drop_all, drop-append-le, length-take-le, take-append-le, take_rest}
use Rattle.encoding_mem.specs.declared.codec.reference.Reference.TheVariants.{Decimal}
use Rattle.encoding_mem.specs.Coding.{AllMapped, Coding, IsMapped, last_set, lost_count, bytes_from, open_from, reference_bytes, spelled, whole_from, output}
use Rattle.encoding_mem.specs.calls.EncoderCalls.{WritesPart, Encodes, EncodesItems}
use Rattle.encoding_mem.specs.laws.Losses.{lost_count-append}
use Rattle.encoding_mem.specs.laws.ReadBack.{none_lost}
use Rattle.encoding_mem.specs.laws.EncoderCalls.{items_in_bytes, last_set-append, mapped_open, open_from-append}
use Rattle.encoding_mem.specs.declared.codec.encoder_result.EncoderResult.TheVariants.{Unmappable, InputEmpty, OutputFull}
use Rattle.encoding_mem.specs.declared.codec.form.Form.TheVariants.{Unmapped}
use Rattle.encoding_mem.specs.declared.codec.form.EscapeState.{EscapeState}
use Rattle.std.specs.Bool.{MatchBool}
use Rattle.encoding_mem.specs.calls.EncoderRule.{Moves, Tight}
use Rattle.encoding_mem.specs.declared.codec.form.EscapeState.TheVariants.{Ascii}
use Rattle.encoding_front.proofs.EncoderCallLemmas.{told_items}
use Rattle.encoding_front.specs.calls.Encoder.{EncoderState, Puts, ReplacingEndsWith, Replaces, coding_in, kept_back, Encoded, Turned, referred, new_state}
use Rattle.encoding_front.specs.laws.Encoder.{need_positive, coding_laws, output_twice}
use Rattle.encoding_front.specs.Encodings.{coding_of}
use Rattle.encoding_front.specs.calls.CodecBounds.{need_of}
use Rattle.encoding_front.specs.declared.coder_result.CoderResult.{CoderResult}
use Rattle.std.proofs.Math.Seq.{take-append-add, drop-append-add}
use borrow.Rule.Slice.PartMut.{put_mid, post_of}
use Rattle.encoding_mem.specs.declared.codec.encoder_result.EncoderResult.{EncoderResult}
use Rattle.encoding_front.specs.EncodingTable.{codec_kind_of}
use Rattle.encoding_front.specs.declared.encoding.Encoding.{Encoding}
use Rattle.encoding_front.specs.Codecs.{codec_of}
use Rattle.encoding_tables.specs.IndexLists.{IndexLists}

-- the digits of a character's number
pub digits_fit : (c : ℕ) (digits : List ℕ) → c < 0x110000 → digits ≡ decimal c → length digits ≤ 7
digits_fit c digits small is =
    omega (arith, ap length is, length-decimal-le 7 c (omega arith) (omega arith) (omega arith))

-- Calls with replacement: what the calls without replacement and the references between them make together.

-- A text that ends with a character without bytes.
abbrev pub before_reference : Coding → EscapeState → List ℕ → ℕ → List ℕ
before_reference e s t d = open_from Decimal e s t ++ e.escape (last_set e s t) (e.set (last_set e s t) d)

unmapped_bytes : (e : Coding) (s : EscapeState) (t : List ℕ) (d u : ℕ) → e.form d ≡ Unmapped u → open_from Decimal e s (t ++ d ∷ []) ≡ before_reference e s t d ++ reference_bytes Decimal u
unmapped_bytes e s t d u lost =
    let q = last_set e s t in
    open_from-append Decimal e s t (d ∷ []) ∙ rw (lost, append-nil (reference_bytes Decimal u)) (sym (append_assoc (open_from Decimal e s t) (e.escape q (e.set q d)) (reference_bytes Decimal u)))

-- Where a call stands after a reference: what was read and written, and what it has still to write.
pub record Gone (e : Coding) (last : Bool) (s : EscapeState) (text written : List ℕ) (s' : EscapeState) (rest : List ℕ) (lost : Bool) (prefix : List ℕ) : Type 0 where
  pub split : text ≡ prefix ++ rest
  pub opened : written ≡ open_from Decimal e s prefix
  pub set : s' ≡ last_set e s prefix
  pub continues : WritesPart Decimal e s text written s' rest
  pub sets : last_set e s text ≡ last_set e s' rest
  pub told : IsTrue lost ↔ (0 < lost_count e prefix)

pub gone_none : (e : Coding) (last : Bool) (s : EscapeState) (text : List ℕ) → Gone e last s text [] s text false []
gone_none e last s text = record {
  split = refl;
  opened = refl;
  set = refl;
  continues = λ r. refl;
  sets = refl;
  told = (λ h. absurd (cc), λ h. absurd (omega arith));
}

-- what a call that reports a character wrote, with the reference, is what the text that it read is written as, and the set
-- that it leaves is that in which this ends
reported : (e : Coding) (last : Bool) (u : ℕ) (s : EscapeState) (text w : List ℕ) (s' : EscapeState) (rest prefix : List ℕ) → Encodes e last (Unmappable u) s text w s' rest → text ≡ prefix ++ rest
    → (w ++ reference_bytes Decimal u ≡ open_from Decimal e s prefix) × (s' ≡ last_set e s prefix)
reported e last u s text w s' rest prefix law split =
    let t = law.before in
    let d = law.leaves.0 in
    let q = last_set e s t in
    let ends : t ++ d ∷ [] ≡ prefix = append_cancel_right (t ++ d ∷ []) prefix rest
    (append_assoc t (d ∷ []) rest ∙ ap (λ l. t ++ l) (sym law.leaves.1) ∙ sym law.split ∙ split) in
    let is : w ≡ before_reference e s t d = law.bytes ∙ ap (λ (k : EscapeState). bytes_from e s t ++ e.escape q k) law.leaves.3
    ∙ ap (λ l. l ++ e.escape q (e.set q d)) (sym (mapped_open Decimal e s t law.mapped)) in (
      ap (λ l. l ++ reference_bytes Decimal u) is ∙ sym (unmapped_bytes e s t d u law.leaves.2) ∙ ap (open_from Decimal e s) ends,
      law.leaves.3 ∙ sym (last_set-append e s t (d ∷ [])) ∙ ap (last_set e s) ends,
    )

-- what a call that reports none wrote is what the text that it read is written as
put_before : (e : Coding) (last : Bool) (outcome : EncoderResult) (s : EscapeState) (text w : List ℕ) (s' : EscapeState) (rest prefix : List ℕ) (law : Encodes e last outcome s text w s' rest)
    → law.next ≡ rest → text ≡ prefix ++ rest → Puts e s prefix w s'
put_before e last outcome s text w s' rest prefix law left split =
    let ends : law.before ≡ prefix = append_cancel_right law.before prefix rest (ap (λ l. law.before ++ l) (sym left) ∙ sym law.split ∙ split) in
    law.bytes ∙ ap (λ l. l ++ e.escape (last_set e s law.before) s') (sym (mapped_open Decimal e s law.before law.mapped))
    ∙ ap (λ l. open_from Decimal e s l ++ e.escape (last_set e s l) s') ends

-- and so are both texts, one after the other
put_on : (e : Coding) (s : EscapeState) (written prefix : List ℕ) (q : EscapeState) (more w : List ℕ) (s' : EscapeState) → written ≡ open_from Decimal e s prefix → q ≡ last_set e s prefix
    → Puts e q more w s' → Puts e s (prefix ++ more) (written ++ w) s'
put_on e s written prefix q more w s' opened set is =
    let r = last_set e s prefix in
    ap (λ l. l ++ w) opened ∙ ap (λ l. open_from Decimal e s prefix ++ l) (subst (λ (k : EscapeState). Puts e k more w s') set is)
    ∙ sym (append_assoc (open_from Decimal e s prefix) (open_from Decimal e r more) (e.escape (last_set e r more) s'))
    ∙ ap (λ l. l ++ e.escape (last_set e r more) s') (sym (open_from-append Decimal e s prefix more))
    ∙ ap (λ (k : EscapeState). open_from Decimal e s (prefix ++ more) ++ e.escape k s') (sym (last_set-append e s prefix more))

counted_lost : (e : Coding) (t : List ℕ) (d u : ℕ) → AllMapped e t → e.form d ≡ Unmapped u → lost_count e (t ++ d ∷ []) ≡ 1
counted_lost e t d u mapped lost = lost_count-append e t (d ∷ []) ∙ rw (none_lost e t mapped, lost) refl

pub gone_on : (e : Coding) (last : Bool) (s : EscapeState) (text written : List ℕ) (s' : EscapeState) (rest : List ℕ) (lost : Bool) (prefix : List ℕ) (w : List ℕ) (u : ℕ) (s'' : EscapeState) (rest' : List ℕ)
    → Gone e last s text written s' rest lost prefix → Encodes e last (Unmappable u) s' rest w s'' rest' → (p : EncodesItems Decimal e last (Unmappable u) s' rest w s'' rest')
    → Gone e last s text (written ++ (w ++ reference_bytes Decimal u)) s'' rest' true (prefix ++ p.prefix)
gone_on e last s text written s' rest lost prefix w u s'' rest' g law p =
    let now = reported e last u s' rest w s'' rest' p.prefix law p.split in
    record {
      split = g.split ∙ ap (λ l. prefix ++ l) p.split ∙ sym (append_assoc prefix p.prefix rest');
      opened = ap (λ l. l ++ (w ++ reference_bytes Decimal u)) g.opened
          ∙ ap (λ l. open_from Decimal e s prefix ++ l) (now.0 ∙ ap (λ (q : EscapeState). open_from Decimal e q p.prefix) g.set) ∙ sym (open_from-append Decimal e s prefix p.prefix);
      set = now.1 ∙ ap (λ (q : EscapeState). last_set e q p.prefix) g.set ∙ sym (last_set-append e s prefix p.prefix);
      continues = λ r. g.continues r ∙ ap (λ l. written ++ l) (items_in_bytes Decimal e last (Unmappable u) s' rest w s'' rest' p r) ∙ sym (append_assoc written (w ++ reference_bytes Decimal u) _);
      sets = g.sets ∙ p.sets tt;
      told =
          let one : lost_count e p.prefix ≡ 1 = ap (lost_count e) p.reads.2 ∙ counted_lost e p.reads.0 p.reads.1 u p.reads.3 p.reads.4 in
          (λ h. omega (arith, lost_count-append e prefix p.prefix), λ h. refl);
    }

-- How a call with replacement ends.

-- each reference of a text from a set ends before an offset
pub record EndBefore (e : Coding) (s : EscapeState) (end : ℕ) (t : List ℕ) : Type 0 where
  pub each : (before : List ℕ) (c : ℕ) (after : List ℕ) → t ≡ before ++ c ∷ after → ¬ (IsMapped (e.form c)) → length (open_from Decimal e s (before ++ c ∷ [])) < end

not_nil : (before : List ℕ) (c : ℕ) (after : List ℕ) → [] ≡ before ++ c ∷ after → ⊥
not_nil [] c after h = cc
not_nil (x ∷ before) c after h = cc

-- a character without bytes of two texts, in the second of which each has some, is in the first
in_prefix : (e : Coding) (a b before : List ℕ) (c : ℕ) (after : List ℕ) → AllMapped e b → a ++ b ≡ before ++ c ∷ after → ¬ (IsMapped (e.form c)) → (more : List ℕ) × (a ≡ before ++ c ∷ more)
in_prefix e [] [] before c after mapped is lost = absurd (not_nil before c after is)
in_prefix e [] (x ∷ b) [] c after mapped is lost =
    let same : x ≡ c = cc in
    absurd (lost (subst (λ (d : ℕ). IsMapped (e.form d)) same mapped.0))
in_prefix e [] (x ∷ b) (y ∷ before) c after mapped is lost =
    let tail : b ≡ before ++ c ∷ after = cc in
    let found = in_prefix e [] b before c after mapped.1 tail lost in
    absurd (not_nil before c found.0 found.1)
in_prefix e (x ∷ a) b [] c after mapped is lost = let same : x ≡ c = cc in (a, ap (λ (d : ℕ). d ∷ a) same)
in_prefix e (x ∷ a) b (y ∷ before) c after mapped is lost =
    let tail : a ++ b ≡ before ++ c ∷ after = cc in
    let same : x ≡ y = cc in
    let found = in_prefix e a b before c after mapped tail lost in
    (found.0, ap (λ (d : ℕ). d ∷ a) same ∙ ap (λ l. y ∷ l) found.1)

-- if the second text ends with one more, the character stands in the first or is that last one
in_prefix_or_last : (e : Coding) (a b : List ℕ) (d : ℕ) (before : List ℕ) (c : ℕ) (after : List ℕ) → AllMapped e b → a ++ (b ++ d ∷ []) ≡ before ++ c ∷ after → ¬ (IsMapped (e.form c))
    → ((more : List ℕ) × (a ≡ before ++ c ∷ more)) ⊎ ((after ≡ []) × (before ++ c ∷ [] ≡ a ++ (b ++ d ∷ [])))
in_prefix_or_last e [] [] d [] c after mapped is lost =
    let same : d ≡ c = cc in
    let none : after ≡ [] = cc in
    inr (none, ap (λ (x : ℕ). x ∷ []) (sym same))
in_prefix_or_last e [] [] d (y ∷ before) c after mapped is lost =
    let tail : [] ≡ before ++ c ∷ after = cc in
    absurd (not_nil before c after tail)
in_prefix_or_last e [] (x ∷ b) d [] c after mapped is lost =
    let same : x ≡ c = cc in
    absurd (lost (subst (λ (n : ℕ). IsMapped (e.form n)) same mapped.0))
in_prefix_or_last e [] (x ∷ b) d (y ∷ before) c after mapped is lost =
    let tail : b ++ d ∷ [] ≡ before ++ c ∷ after = cc in
    let same : y ≡ x = cc in
    elim (in_prefix_or_last e [] b d before c after mapped.1 tail lost) [
      | inl found ↦ absurd (not_nil before c found.0 found.1)
      | inr last ↦ inr (last.0, ap (λ (n : ℕ). n ∷ before ++ c ∷ []) same ∙ ap (λ l. x ∷ l) last.1)
    ]
in_prefix_or_last e (x ∷ a) b d [] c after mapped is lost = let same : x ≡ c = cc in inl (a, ap (λ (n : ℕ). n ∷ a) same)
in_prefix_or_last e (x ∷ a) b d (y ∷ before) c after mapped is lost =
    let tail : a ++ (b ++ d ∷ []) ≡ before ++ c ∷ after = cc in
    let same : x ≡ y = cc in
    elim (in_prefix_or_last e a b d before c after mapped tail lost) [
      | inl found ↦ inl (found.0, ap (λ (n : ℕ). n ∷ a) same ∙ ap (λ l. y ∷ l) found.1)
      | inr last ↦ inr (last.0, ap (λ (n : ℕ). n ∷ before ++ c ∷ []) (sym same) ∙ ap (λ l. x ∷ l) last.1)
    ]

-- two moves are one
moves_on : (e : Coding) (s s' s'' : EscapeState) → Moves e s s' → Moves e s' s'' → Moves e s s''
moves_on e s s' s'' h (inl same) = subst (λ (q : EscapeState). Moves e s q) (sym same) h
moves_on e s s' s'' h (inr moved) = inr moved

-- After a reference.
pub record Going (e : Coding) (last : Bool) (s : EscapeState) (text written : List ℕ) (s' : EscapeState) (rest : List ℕ) (lost : Bool) (end : ℕ) : Type 0 where
  pub prefix : List ℕ
  pub gone : Gone e last s text written s' rest lost prefix
  pub moves : Moves e s s'
  pub before : EndBefore e s end prefix

pub going_none : (e : Coding) (last : Bool) (s : EscapeState) (text : List ℕ) (end : ℕ) → Going e last s text [] s text false end
going_none e last s text end = record {
  prefix = [];
  gone = gone_none e last s text;
  moves = inl refl;
  before = record { each = λ before c after is lost. absurd (not_nil before c after is) };
}

pub going_on : (e : Coding) (last : Bool) (s : EscapeState) (text written : List ℕ) (s' : EscapeState) (rest : List ℕ) (lost : Bool) (end : ℕ) (w : List ℕ) (u : ℕ) (s'' : EscapeState) (rest' : List ℕ)
    → Going e last s text written s' rest lost end → Encodes e last (Unmappable u) s' rest w s'' rest' → EncodesItems Decimal e last (Unmappable u) s' rest w s'' rest' → Moves e s' s'' → length (written ++ (w ++ reference_bytes Decimal u)) < end
    → Going e last s text (written ++ (w ++ reference_bytes Decimal u)) s'' rest' true end
going_on e last s text written s' rest lost end w u s'' rest' g law p moves more =
    let on = gone_on e last s text written s' rest lost g.prefix w u s'' rest' g.gone law p in
    record {
      prefix = g.prefix ++ p.prefix;
      gone = on;
      moves = moves_on e s s' s'' g.moves moves;
      before = record {
        each = λ before c after is unmapped.
            let at = ap (λ l. g.prefix ++ l) (sym p.reads.2) ∙ is in
            elim (in_prefix_or_last e g.prefix p.reads.0 p.reads.1 before c after p.reads.3 at unmapped) [
              | inl found ↦ g.before.each before c found.0 found.1 unmapped
              | inr last_one ↦
                  let whole = last_one.1 ∙ ap (λ l. g.prefix ++ l) (sym p.reads.2) in
                  omega (arith, ap length (ap (open_from Decimal e s) whole), ap length on.opened)
            ];
      };
    }

-- what is still to be written at the end of a call
owed_open : (e : Coding) (last : Bool) (s : EscapeState) (text written : List ℕ) (s' : EscapeState) (rest : List ℕ) (lost : Bool) (prefix : List ℕ) → Gone e last s text written s' rest lost prefix
    → whole_from Decimal e s text ≡ written ++ whole_from Decimal e s' rest
owed_open e last s text written s' rest lost prefix g =
    let open_is = sym (ap (open_from Decimal e s) (append-nil text)) ∙ g.continues [] ∙ ap (λ t. written ++ open_from Decimal e s' t) (append-nil rest) in
    ap (λ l. l ++ e.escape (last_set e s text) Ascii) open_is ∙ ap (λ (q : EscapeState). (written ++ open_from Decimal e s' rest) ++ e.escape q Ascii) g.sets
    ∙ append_assoc written (open_from Decimal e s' rest) (e.escape (last_set e s' rest) Ascii)

abbrev pub Bytes : Coding → Bool → EscapeState → List ℕ → List ℕ → EscapeState → List ℕ → Type 0
Bytes e last s t w s' rest = MatchBool last (whole_from Decimal e s t ≡ w ++ whole_from Decimal e s' rest) (WritesPart Decimal e s t w s' rest)

gone_bytes : (e : Coding) (last : Bool) (s : EscapeState) (text written : List ℕ) (s' : EscapeState) (rest : List ℕ) (lost : Bool) (prefix : List ℕ) → Gone e last s text written s' rest lost prefix → Bytes e last s text written s' rest
gone_bytes e true s text written s' rest lost prefix g = owed_open e true s text written s' rest lost prefix g
gone_bytes e false s text written s' rest lost prefix g = g.continues

joined : (e : Coding) (last : Bool) (s : EscapeState) (text written : List ℕ) (s' : EscapeState) (rest : List ℕ) (lost : Bool) (prefix w : List ℕ) (s'' : EscapeState) (rest' : List ℕ)
    → Gone e last s text written s' rest lost prefix → Bytes e last s' rest w s'' rest' → Bytes e last s text (written ++ w) s'' rest'
joined e true s text written s' rest lost prefix w s'' rest' g is =
    owed_open e true s text written s' rest lost prefix g ∙ ap (λ l. written ++ l) is ∙ sym (append_assoc written w (whole_from Decimal e s'' rest'))
joined e false s text written s' rest lost prefix w s'' rest' g is = λ r. g.continues r ∙ ap (λ l. written ++ l) (is r) ∙ sym (append_assoc written w (open_from Decimal e s'' (rest' ++ r)))

-- no escape is to be written if the set is that in which the text ends
at_set : (x : EncoderState) (last : Bool) (text written : List ℕ) (s' : EscapeState) (rest : List ℕ) (lost : Bool) (prefix : List ℕ) → Gone (coding_in x) last x.set text written s' rest lost prefix
    → Puts (coding_in x) x.set prefix written s'
at_set x last text written s' rest lost prefix g =
    let e = coding_in x in
    let q = last_set e x.set prefix in
    let none : e.escape q s' ≡ [] = ap (λ (k : EscapeState). e.escape q k) g.set ∙ (coding_laws x.tables x.encoding).same q in
    g.opened ∙ sym (append-nil (open_from Decimal e x.set prefix)) ∙ ap (λ l. open_from Decimal e x.set prefix ++ l) (sym none)

-- a last call without a character to report
pub ended : (x x' : EncoderState) (last : Bool) (outcome : CoderResult) (text written : List ℕ) (s : EscapeState) (rest : List ℕ) (lost : Bool) (w rest' prefix : List ℕ) (size end : ℕ)
    → end ≡ size - kept_back x.encoding → kept_back x.encoding ≤ size → Going (coding_in x) last x.set text written s rest lost end
    → x' ≡ record x { set = x'.set } → rest ≡ prefix ++ rest' → AllMapped (coding_in x) prefix → Puts (coding_in x) s prefix w x'.set → Bytes (coding_in x) last s rest w x'.set rest'
    → (last ≡ false → last_set (coding_in x) s rest ≡ last_set (coding_in x) x'.set rest') → Moves (coding_in x) s x'.set → ReplacingEndsWith last outcome x'.set rest'
    → (outcome ≡ CoderResult.OutputFull → end - length (written ++ w) < need_of x.encoding)
    → (outcome ≡ CoderResult.OutputFull → Tight (coding_in x) OutputFull x'.set rest' (end - length (written ++ w))) → length (written ++ w) ≤ end
    → Replaces x last outcome text (written ++ w) x' rest' lost size
ended x x' last outcome text written s rest lost w rest' prefix size end at enough g same split mapped put bytes sets moves ends full tight fits =
    let e = coding_in x in
    record {
      same = same;
      prefix = g.prefix ++ prefix;
      split = g.gone.split ∙ ap (λ l. g.prefix ++ l) split ∙ sym (append_assoc g.prefix prefix rest');
      put = put_on e x.set written g.prefix s prefix w x'.set g.gone.opened g.gone.set put;
      bytes = joined e last x.set text written s rest lost g.prefix w x'.set rest' g.gone bytes;
      sets = λ h. g.gone.sets ∙ sets h;
      moves = moves_on e x.set s x'.set g.moves moves;
      told =
          let count : lost_count e (g.prefix ++ prefix) ≡ lost_count e g.prefix = lost_count-append e g.prefix prefix ∙ omega (arith, none_lost e prefix mapped) in
          (λ h. omega (arith, g.gone.told.0 h), λ h. g.gone.told.1 (omega arith));
      ends = ends;
      full = λ h. omega (arith, full h);
      tight = λ h short. subst (λ (k : ℕ). Tight e OutputFull x'.set rest' (k - length (written ++ w))) at (tight h);
      kept = λ more. absurd (omega arith);
      few = λ less. absurd (omega arith);
      stops = λ before c after is unmapped reach.
          let found = in_prefix e g.prefix prefix before c after mapped is unmapped in
          absurd (omega (arith, g.before.each before c found.0 found.1 unmapped));
    }

-- a reference that reaches the end
pub reached : (x x' : EncoderState) (last : Bool) (outcome : CoderResult) (text written : List ℕ) (s : EscapeState) (rest : List ℕ) (lost : Bool) (w : List ℕ) (u : ℕ) (rest' : List ℕ) (size end : ℕ)
    → end ≡ size - kept_back x.encoding → kept_back x.encoding ≤ size → Going (coding_in x) last x.set text written s rest lost end
    → x' ≡ record x { set = x'.set } → Encodes (coding_in x) last (Unmappable u) s rest w x'.set rest' → EncodesItems Decimal (coding_in x) last (Unmappable u) s rest w x'.set rest' → Moves (coding_in x) s x'.set → ReplacingEndsWith last outcome x'.set rest'
    → end ≤ length (written ++ (w ++ reference_bytes Decimal u)) → length (written ++ w) ≤ end
    → Replaces x last outcome text (written ++ (w ++ reference_bytes Decimal u)) x' rest' true size
reached x x' last outcome text written s rest lost w u rest' size end at enough g same law p moves ends reach fits =
    let e = coding_in x in
    let on = gone_on e last x.set text written s rest lost g.prefix w u x'.set rest' g.gone law p in
    record {
      same = same;
      prefix = g.prefix ++ p.prefix;
      split = on.split;
      put = at_set x last text (written ++ (w ++ reference_bytes Decimal u)) x'.set rest' true (g.prefix ++ p.prefix) on;
      bytes = gone_bytes e last x.set text (written ++ (w ++ reference_bytes Decimal u)) x'.set rest' true (g.prefix ++ p.prefix) on;
      sets = λ h. on.sets;
      moves = moves_on e x.set s x'.set g.moves moves;
      told = on.told;
      ends = ends;
      full = λ h. omega (arith, need_positive x.encoding);
      tight = λ h short. absurd (omega (arith, at, reach, short));
      kept = λ more. record {
        before = g.prefix ++ p.reads.0;
        lost = p.reads.1;
        is = ap (λ l. g.prefix ++ l) p.reads.2 ∙ sym (append_assoc g.prefix p.reads.0 (p.reads.1 ∷ []));
        unmapped = λ mapped. subst IsMapped p.reads.4 mapped;
        whole = on.opened;
        begins =
            let spelled_is : length (spelled Decimal (e.form p.reads.1)) ≡ length (reference_bytes Decimal u) = ap (λ f. length (spelled Decimal f)) p.reads.4 in
            omega (arith, at, fits, spelled_is, length-append written (w ++ reference_bytes Decimal u), length-append w (reference_bytes Decimal u), length-append written w);
      };
      few = λ less. absurd (omega arith);
      stops = λ before c after is unmapped past.
          let parts = ap (λ l. g.prefix ++ l) (sym p.reads.2) ∙ is in
          elim (in_prefix_or_last e g.prefix p.reads.0 p.reads.1 before c after p.reads.3 parts unmapped) [
            | inl found ↦ absurd (omega (arith, g.before.each before c found.0 found.1 unmapped))
            | inr last_one ↦ (last_one.0, on.opened)
          ];
    }

-- a call into fewer bytes than are kept back
pub too_few : (x : EncoderState) (last : Bool) (outcome : CoderResult) (text : List ℕ) (size : ℕ) → size < kept_back x.encoding → ReplacingEndsWith last outcome x.set text
    → Replaces x last outcome text [] x text false size
too_few x last outcome text size less ends =
    let none = gone_none (coding_in x) last x.set text in
    record {
      same = refl;
      prefix = [];
      split = refl;
      put = at_set x last text [] x.set text false [] none;
      bytes = gone_bytes (coding_in x) last x.set text [] x.set text false [] none;
      sets = λ h. refl;
      moves = inl refl;
      told = none.told;
      ends = ends;
      full = λ h. omega (arith, need_positive x.encoding);
      tight = λ h short. absurd (omega (arith, less, short));
      kept = λ more. absurd (omega arith);
      few = λ h. (refl, refl);
      stops = λ before c after is unmapped reach. absurd (not_nil before c after is);
    }

-- A turn of a call with replacement: one call without, and the reference that it asks for.

-- What a turn wrote into the part of a slice from an offset on.
pub take_into : (a k n : ℕ) (xs ys : List ℕ) → a ≤ length xs → n ≤ length ys → take (a + n) (put_mid a k xs ys) ≡ take a xs ++ take n ys
take_into a k n xs ys within fits =
    ap (λ m. take (m + n) (put_mid a k xs ys)) (sym (length-take-le a xs within)) ∙ take-append-add (take a xs) (ys ++ post_of a k xs) n
    ∙ ap (λ l. take a xs ++ l) (take-append-le n ys (post_of a k xs) fits)

pub length_new : (a k n : ℕ) (xs ys : List ℕ) → a ≤ length xs → n ≤ length ys → length (take (a + n) (put_mid a k xs ys)) ≡ a + n
length_new a k n xs ys within fits =
    omega (arith, ap length (take_into a k n xs ys within fits), length-append (take a xs) (take n ys), length-take-le a xs within, length-take-le n ys fits)

none_after : (a k : ℕ) (xs : List ℕ) → length xs ≤ a + k → post_of a k xs ≡ []
none_after a k xs past = drop-drop k a xs ∙ drop_all (a + k) xs past

drop_into : (a k n : ℕ) (xs ys : List ℕ) → a ≤ length xs → k ≡ length xs - a → n ≤ length ys → drop n ys ≡ drop n (take k (drop a xs)) → drop (a + n) (put_mid a k xs ys) ≡ drop (a + n) xs
drop_into a k n xs ys within size fits behind =
    ap (λ m. drop (m + n) (put_mid a k xs ys)) (sym (length-take-le a xs within)) ∙ drop-append-add (take a xs) (ys ++ post_of a k xs) n
    ∙ drop-append-le n ys (post_of a k xs) fits ∙ ap (λ l. drop n ys ++ l) (none_after a k xs (omega (arith, size))) ∙ append-nil (drop n ys)
    ∙ behind ∙ ap (λ m. drop n (take m (drop a xs))) size ∙ ap (drop n) (take_rest xs a) ∙ drop-drop n a xs

-- what is after it stays as it was, and so does the length
pub behind_turn : (old dst ys : List ℕ) (a n : ℕ) → a ≤ length dst → n ≤ length ys → drop a dst ≡ drop a old → drop n ys ≡ drop n (take (length dst - a) (drop a dst))
    → drop (a + n) (put_mid a (length dst - a) dst ys) ≡ drop (a + n) old
behind_turn old dst ys a n within fits before behind =
    drop_into a (length dst - a) n dst ys within refl fits behind ∙ sym (drop-drop n a dst) ∙ ap (drop n) before ∙ drop-drop n a old

pub length_turn : (dst ys : List ℕ) (a : ℕ) → a ≤ length dst → length ys ≡ length (take (length dst - a) (drop a dst)) → length (put_mid a (length dst - a) dst ys) ≡ length dst
length_turn dst ys a within size =
    let none = ap length (none_after a (length dst - a) dst (omega arith)) in
    let whole = length-take-le (length dst - a) (drop a dst) (omega (arith, length-drop a dst)) in
    omega (arith, size, whole, none, length-append (take a dst) (ys ++ post_of a (length dst - a) dst), length-append ys (post_of a (length dst - a) dst), length-take-le a dst within)

-- a character that is reported was read
pub shorter : (x : EncoderState) (last : Bool) (answer : EncoderResult) (u : ℕ) (text more : List ℕ) (x' : EncoderState) (rest : List ℕ) (end : ℕ) → Turned x last answer text more x' rest end → answer ≡ Unmappable u
    → length rest < length text
shorter x last answer u text more x' rest end t is =
    let law = told_items x last (Unmappable u) text t.called x' rest (end - length t.called) (rw is at t.call) in
    let reads = law.reads in
    omega (arith, ap length law.split, length-append law.prefix rest, ap length reads.2, length-append reads.0 (reads.1 ∷ []))

-- an encoder that differs from the first in its set alone
as_first : (x x1 : EncoderState) (last : Bool) (answer : EncoderResult) (text written : List ℕ) (x' : EncoderState) (rest : List ℕ) (room : ℕ) → x1 ≡ record x { set = x1.set }
    → Encoded x1 last answer text written x' rest room → Encoded (record x { set = x1.set }) last answer text written x' rest room
as_first x x1 last answer text written x' rest room same call = subst (λ (y : EncoderState). Encoded y last answer text written x' rest room) same call

-- of a turn that ends the call
pub input_empty : (x x1 x' : EncoderState) (last : Bool) (answer : EncoderResult) (text old rest : List ℕ) (lost : Bool) (more rest' new : List ℕ) (size end n : ℕ)
    → end ≡ size - kept_back x.encoding → kept_back x.encoding ≤ size → x1 ≡ record x { set = x1.set } → Going (coding_in x) last x.set text old x1.set rest lost end
    → Turned x1 last answer rest more x' rest' n → answer ≡ InputEmpty → new ≡ old ++ more → n ≡ end - length old → length old ≤ end
    → Replaces x last CoderResult.InputEmpty text new x' rest' lost size
input_empty x x1 x' last answer text old rest lost more rest' new size end n at enough same going t is new_is left within =
    let call = as_first x x1 last InputEmpty rest t.called x' rest' (n - length t.called) same (rw is at t.call) in
    let law = told_items (record x { set = x1.set }) last InputEmpty rest t.called x' rest' (n - length t.called) call in
    let bytes : more ≡ t.called = t.all ∙ ap (λ (a : EncoderResult). t.called ++ referred a) is ∙ append-nil t.called in
    subst (λ (l : List ℕ). Replaces x last CoderResult.InputEmpty text l x' rest' lost size) (sym (new_is ∙ ap (λ l. old ++ l) bytes))
    (ended x x' last CoderResult.InputEmpty text old x1.set rest lost t.called rest' law.prefix size end at enough going
    call.same law.split law.reads (put_before (coding_in x) last InputEmpty x1.set rest t.called x'.set rest' law.prefix call.codec.law (call.codec.law.leaves.0 ∙ sym call.codec.law.leaves.1) law.split)
    call.bytes law.sets call.moves call.codec.ends (λ h. absurd (cc)) (λ h. absurd (cc)) (omega (arith, t.fits, left, length-append old t.called)))

pub output_full : (x x1 x' : EncoderState) (last : Bool) (answer : EncoderResult) (text old rest : List ℕ) (lost : Bool) (more rest' new : List ℕ) (size end n : ℕ)
    → end ≡ size - kept_back x.encoding → kept_back x.encoding ≤ size → x1 ≡ record x { set = x1.set } → Going (coding_in x) last x.set text old x1.set rest lost end
    → Turned x1 last answer rest more x' rest' n → answer ≡ OutputFull → new ≡ old ++ more → n ≡ end - length old → length old ≤ end
    → Replaces x last CoderResult.OutputFull text new x' rest' lost size
output_full x x1 x' last answer text old rest lost more rest' new size end n at enough same going t is new_is left within =
    let call = as_first x x1 last OutputFull rest t.called x' rest' (n - length t.called) same (rw is at t.call) in
    let law = told_items (record x { set = x1.set }) last OutputFull rest t.called x' rest' (n - length t.called) call in
    let bytes : more ≡ t.called = t.all ∙ ap (λ (a : EncoderResult). t.called ++ referred a) is ∙ append-nil t.called in
    subst (λ (l : List ℕ). Replaces x last CoderResult.OutputFull text l x' rest' lost size) (sym (new_is ∙ ap (λ l. old ++ l) bytes))
    (ended x x' last CoderResult.OutputFull text old x1.set rest lost t.called rest' law.prefix size end at enough going
    call.same law.split law.reads (put_before (coding_in x) last OutputFull x1.set rest t.called x'.set rest' law.prefix call.codec.law call.codec.law.leaves.0 law.split)
    call.bytes law.sets call.moves call.codec.ends.1 (λ h. omega (arith, call.codec.ends.0, length-append old t.called))
    (λ h. subst (λ (k : ℕ). Tight (coding_in x) OutputFull x'.set rest' k) (omega (arith, left, length-append old t.called)) call.codec.tight)
    (omega (arith, t.fits, left, length-append old t.called)))

-- of a turn that writes a reference
pub reference_reached : (x x1 x' : EncoderState) (last : Bool) (answer : EncoderResult) (u : ℕ) (outcome : CoderResult) (text old rest : List ℕ) (lost : Bool) (more rest' new : List ℕ) (size end n : ℕ)
    → end ≡ size - kept_back x.encoding → kept_back x.encoding ≤ size → x1 ≡ record x { set = x1.set } → Going (coding_in x) last x.set text old x1.set rest lost end
    → Turned x1 last answer rest more x' rest' n → answer ≡ Unmappable u → new ≡ old ++ more → ReplacingEndsWith last outcome x'.set rest' → end ≤ length new → n ≡ end - length old → length old ≤ end
    → Replaces x last outcome text new x' rest' true size
reference_reached x x1 x' last answer u outcome text old rest lost more rest' new size end n at enough same going t is new_is ends reach left within =
    let call = as_first x x1 last (Unmappable u) rest t.called x' rest' (n - length t.called) same (rw is at t.call) in
    let law = told_items (record x { set = x1.set }) last (Unmappable u) rest t.called x' rest' (n - length t.called) call in
    let bytes : new ≡ old ++ (t.called ++ reference_bytes Decimal u) = new_is ∙ ap (λ l. old ++ l) (t.all ∙ ap (λ (a : EncoderResult). t.called ++ referred a) is) in
    subst (λ (l : List ℕ). Replaces x last outcome text l x' rest' true size) (sym bytes)
    (reached x x' last outcome text old x1.set rest lost t.called u rest' size end at enough going call.same call.codec.law law call.moves ends (omega (arith, reach, ap length bytes)) (omega (arith, t.fits, left, length-append old t.called)))

pub turn_on : (x x1 x' : EncoderState) (last : Bool) (answer : EncoderResult) (u : ℕ) (text old rest : List ℕ) (lost : Bool) (more rest' new : List ℕ) (end n : ℕ)
    → x1 ≡ record x { set = x1.set } → Going (coding_in x) last x.set text old x1.set rest lost end
    → Turned x1 last answer rest more x' rest' n → answer ≡ Unmappable u → new ≡ old ++ more → length new < end
    → Going (coding_in x) last x.set text new x'.set rest' true end
turn_on x x1 x' last answer u text old rest lost more rest' new end n same going t is new_is short =
    let call = as_first x x1 last (Unmappable u) rest t.called x' rest' (n - length t.called) same (rw is at t.call) in
    let law = told_items (record x { set = x1.set }) last (Unmappable u) rest t.called x' rest' (n - length t.called) call in
    let bytes : new ≡ old ++ (t.called ++ reference_bytes Decimal u) = new_is ∙ ap (λ l. old ++ l) (t.all ∙ ap (λ (a : EncoderResult). t.called ++ referred a) is) in
    subst (λ (l : List ℕ). Going (coding_in x) last x.set text l x'.set rest' true end) (sym bytes)
    (going_on (coding_in x) last x.set text old x1.set rest lost end t.called u x'.set rest' going call.codec.law law call.moves (omega (arith, short, ap length bytes)))

-- the encoder afterwards
pub still_same : (x x1 x' : EncoderState) (last : Bool) (answer : EncoderResult) (text more : List ℕ) (rest : List ℕ) (n : ℕ) → x1 ≡ record x { set = x1.set } → Turned x1 last answer text more x' rest n
    → x' ≡ record x { set = x'.set }
still_same x x1 x' last answer text more rest n same t = t.call.same ∙ ap (λ (y : EncoderState). record y { set = x'.set }) same

-- A whole text through last calls with replacement, one after another.

-- what was read and written of a text, and what is still to be written
pub record Passed (x : EncoderState) (text written : List ℕ) (x' : EncoderState) (rest : List ℕ) (lost : Bool) : Type 0 where
  pub same : x' ≡ record x { set = x'.set }
  pub prefix : List ℕ
  pub split : text ≡ prefix ++ rest
  pub owed : whole_from Decimal (coding_in x) x.set text ≡ written ++ whole_from Decimal (coding_in x) x'.set rest
  pub told : IsTrue lost ↔ (0 < lost_count (coding_in x) prefix)

pub passed_none : (x : EncoderState) (text : List ℕ) → Passed x text [] x text false
passed_none x text = record {
  same = refl;
  prefix = [];
  split = refl;
  owed = refl;
  told = (λ h. absurd (cc), λ h. absurd (omega arith));
}

either : (a b : Bool) (m n : ℕ) → IsTrue a ↔ (0 < m) → IsTrue b ↔ (0 < n) → IsTrue (a || b) ↔ (0 < m + n)
either true b m n h k = (λ _. omega (arith, h.0 refl), λ _. refl)
either false true m n h k = (λ _. omega (arith, k.0 refl), λ _. refl)
either false false m n h k = (λ e. absurd (cc), λ some. none m h k some)
  where
    none : (m : ℕ) → IsTrue false ↔ (0 < m) → IsTrue false ↔ (0 < n) → 0 < m + n → IsTrue false
    none zero h k some = k.1 (omega arith)
    none (suc m) h k some = h.1 (omega arith)

pub passed_on : (x x1 x2 : EncoderState) (outcome : CoderResult) (text written rest more rest' : List ℕ) (lost lost' : Bool) (size : ℕ)
    → Passed x text written x1 rest lost → Replaces x1 true outcome rest more x2 rest' lost' size → Passed x text (written ++ more) x2 rest' (lost || lost')
passed_on x x1 x2 outcome text written rest more rest' lost lost' size p r0 =
    let r = subst (λ (y : EncoderState). Replaces y true outcome rest more x2 rest' lost' size) p.same r0 in
    record {
      same = r.same;
      prefix = p.prefix ++ r.prefix;
      split = p.split ∙ ap (λ l. p.prefix ++ l) r.split ∙ sym (append_assoc p.prefix r.prefix rest');
      owed = p.owed ∙ ap (λ l. written ++ l) r.bytes ∙ sym (append_assoc written more (whole_from Decimal (coding_in x) x2.set rest'));
      told =
          let both = either lost lost' (lost_count (coding_in x) p.prefix) (lost_count (coding_in x) r.prefix) p.told r.told in
          let sum = lost_count-append (coding_in x) p.prefix r.prefix in
          (λ h. omega (arith, sum, both.0 h), λ h. both.1 (omega (arith, sum)));
    }

-- at the end nothing is left to write
pub passed_all : (x x' : EncoderState) (text written rest : List ℕ) (lost : Bool) → Passed x text written x' rest lost → rest ≡ [] → x'.set ≡ Ascii → written ≡ whole_from Decimal (coding_in x) x.set text
passed_all x x' text written rest lost p none ascii =
    let e = coding_in x in
    let nothing : whole_from Decimal e x'.set rest ≡ [] = ap (whole_from Decimal e x'.set) none ∙ ap (λ s. e.escape s Ascii) ascii ∙ (coding_laws x.tables x.encoding).same Ascii in
    sym (p.owed ∙ ap (λ l. written ++ l) nothing ∙ append-nil written)

pub passed_told : (x x' : EncoderState) (text written rest : List ℕ) (lost : Bool) → Passed x text written x' rest lost → rest ≡ [] → IsTrue lost ↔ (0 < lost_count (coding_in x) text)
passed_told x x' text written rest lost p none =
    let whole : text ≡ p.prefix = p.split ∙ ap (λ l. p.prefix ++ l) none ∙ append-nil p.prefix in
    subst (λ (l : List ℕ). IsTrue lost ↔ (0 < lost_count (coding_in x) l)) (sym whole) p.told

-- one more call, into a vector that holds what was written
pub one_more : (x x1 x2 : EncoderState) (outcome : CoderResult) (text old held rest more new rest' : List ℕ) (lost lost' : Bool) (size : ℕ)
    → Passed x text old x1 rest lost → held ≡ old → new ≡ held ++ more → Replaces x1 true outcome rest more x2 rest' lost' size → Passed x text new x2 rest' (lost || lost')
one_more x x1 x2 outcome text old held rest more new rest' lost lost' size p kept is r =
    subst (λ (l : List ℕ). Passed x text l x2 rest' (lost || lost')) (sym (is ∙ ap (λ l. l ++ more) kept)) (passed_on x x1 x2 outcome text old rest more rest' lost lost' size p r)

-- of a new encoder
pub all_bytes : (t : IndexLists) (e : Encoding) (x x' : EncoderState) (text written rest : List ℕ) (lost : Bool) → x ≡ new_state t e → Passed x text written x' rest lost → rest ≡ [] → x'.set ≡ Ascii
    → written ≡ output Decimal (coding_of t e) text
all_bytes t e x x' text written rest lost new p none ascii =
    passed_all x x' text written rest lost p none ascii ∙ ap (λ (y : EncoderState). whole_from Decimal (coding_in y) y.set text) new
    ∙ ap (λ (d : Encoding). whole_from Decimal (codec_of t (codec_kind_of d)).coding Ascii text) (output_twice e)

pub all_told : (t : IndexLists) (e : Encoding) (x x' : EncoderState) (text written rest : List ℕ) (lost : Bool) → x ≡ new_state t e → Passed x text written x' rest lost → rest ≡ []
    → IsTrue lost ↔ (0 < lost_count (coding_of t e) text)
all_told t e x x' text written rest lost new p none =
    let count : lost_count (coding_in x) text ≡ lost_count (coding_of t e) text =
    ap (λ (y : EncoderState). lost_count (coding_in y) text) new ∙ ap (λ (d : Encoding). lost_count (codec_of t (codec_kind_of d)).coding text) (output_twice e) in
    subst (λ (n : ℕ). IsTrue lost ↔ (0 < n)) count (passed_told x x' text written rest lost p none)
