-- A walk goes on by what a call of its decoder gave, and calls add up.
use Rattle.std.proofs.Common.{◌≡◌, ℕ, ◌+◌, ◌<◌, ◌≤◌, ◌⊎◌, inl, inr, Bool, true, false, Option, Some, None, IfSome, List, [], ◌∷◌, ◌++◌, refl, sym, ◌∙◌, ap, subst, arith, append-nil, append_assoc, length, drop}
use Rattle.std.proofs.lemmas.Bool.{false≢true}
use Rattle.std.proofs.lemmas.List.{length-append, length-drop}
use Rattle.encoding_mem.specs.Piece.{Piece, malformed, sizes, scalars, text}
use Rattle.encoding_mem.specs.laws.Piece.{sizes-append, text-append}
use Rattle.std.specs.Io.KnownBytes.{Consumes, IsAtEnd}
use Rattle.std.specs.Str.{encode_utf8_all}
use Rattle.encoding_mem.specs.calls.Decoding.{DecoderState, Reports, StateLaw, Waits}
use Rattle.encoding_front.specs.calls.Stream.{finishes, is_input_empty}
use Rattle.encoding_mem.specs.calls.Writing.{Adds}
use Rattle.encoding_mem.specs.declared.codec.decoder_result.DecoderResult.{DecoderResult}
use Rattle.encoding_mem.specs.declared.codec.decoder_result.DecoderResult.TheVariants.{Malformed}
use Rattle.recode_places.specs.Entries.{TellsTrue, TellsTrueIn}
use Rattle.recode_places.specs.Places.{IsPlaceAfter}
use Rattle.recode_places.specs.calls.Walks.{HasPassed, TellsPrefix, WalksInput, WalksOn, WalkState}
use Rattle.recode_places.specs.declared.entry.Entry.{Entry}
use Rattle.recode_places.specs.declared.place.Place.{Place}
use Rattle.recode_places.proofs.CallLemmas.{IsCutAt, cut_at, few_taken, reported}
use Rattle.recode_places.proofs.EntryLemmas.{tells_nothing, tells_then, tells_wider}

-- more pieces
pub tells_in_wider : (ps qs : List Piece) (a b : Option (List Entry)) → TellsTrueIn ps a b → TellsTrueIn (ps ++ qs) a b
tells_in_wider ps qs a b h = subst (λ t. TellsTrue (ps ++ qs) t a b) (sym (text-append ps qs)) (tells_wider ps qs (text ps) (text qs) a b h)

-- what was reported of a text is true of the pieces whose text it is
tells_pieces : (ps qs : List Piece) (cs : List ℕ) (a b : Option (List Entry)) → cs ≡ text qs → TellsTrue (ps ++ qs) (text ps ++ cs) a b → TellsTrueIn (ps ++ qs) a b
tells_pieces ps qs cs a b e h = subst (λ t. TellsTrue (ps ++ qs) t a b) (ap (λ t. text ps ++ t) e ∙ sym (text-append ps qs)) h

place_pieces : (p : Place) (ps qs : List Piece) (cs : List ℕ) → cs ≡ text qs → IsPlaceAfter p (text ps ++ cs) → IsPlaceAfter p (text (ps ++ qs))
place_pieces p ps qs cs e h = subst (IsPlaceAfter p) (ap (λ t. text ps ++ t) e ∙ sym (text-append ps qs)) h

-- ---- a call, whose text was reported and passed

module _ (told told' : Option (List Entry)) (v : WalkState) (p : Place) (d : DecoderState) (src : List ℕ) (last : Bool) (n : ℕ) (W : List ℕ → Type 0) (o : DecoderResult)
    (k : StateLaw v.decoder d src last n W o) (cs : List ℕ) (is : cs ≡ scalars k.taken)
    (tells : (ps : List Piece) (t : List ℕ) → IsPlaceAfter v.place t → TellsTrue ps (t ++ cs) told told') where
  abbrev cut : IsCutAt o k.taken
  cut = cut_at o d.pending k.taken k.well_formed

  whole : (r : List ℕ) → (last ≡ true → r ≡ []) → v.decoder.pieces (src ++ r) ≡ cut.before ++ (reported o ++ d.pieces (drop n src ++ r))
  whole r end = k.rest r end ∙ ap (λ ps. ps ++ d.pieces (drop n src ++ r)) cut.whole ∙ append_assoc cut.before (reported o) (d.pieces (drop n src ++ r))

  before_told : (ps : List Piece) → HasPassed v ps → TellsTrueIn (ps ++ cut.before) told told'
  before_told ps h = tells_pieces ps cut.before cs told told' (is ∙ cut.same) (tells (ps ++ cut.before) (text ps) h.place)

  -- the report of the text ended early
  pub text_stops : TellsPrefix told told' v src last
  text_stops = record { passed = cut.before; rest = λ r end. (reported o ++ d.pieces (drop n src ++ r), whole r end); tells = before_told }

  -- the text was passed
  module _ (place : (t : List ℕ) → IsPlaceAfter v.place t → IsPlaceAfter p (t ++ cs)) (index : p.index ≡ v.place.index + length cs) where
    before_passed : (ps : List Piece) → HasPassed v ps → IsPlaceAfter p (text (ps ++ cut.before))
    before_passed ps h = place_pieces p ps cut.before cs (is ∙ cut.same) (place (text ps) h.place)

    pub walks_text : (w : WalkState) → w.place ≡ p → w.decoder ≡ d → w.read ≡ v.read + n → reported o ≡ [] → WalksOn told told' v w src (drop n src) last
    walks_text w here same read none = record {
      passed = k.taken;
      rest = λ r end. k.rest r end ∙ ap (λ (x : DecoderState). k.taken ++ x.pieces (drop n src ++ r)) (sym same);
      read = omega (arith, read, length-drop n src, k.within);
      within = λ h. omega (arith, h, read, few, k.counted, ap (λ (x : DecoderState). x.pending) same, ap (λ (x : Place). x.index) here, index, ap length (is ∙ cut.same));
      passes = λ ps h. record {
        place = subst (λ x. IsPlaceAfter w.place (text (ps ++ x))) (sym taken) (subst (λ x. IsPlaceAfter x (text (ps ++ cut.before))) (sym here) (before_passed ps h));
        read = omega (arith, h.read, read, k.counted, sizes-append ps k.taken, ap (λ (x : DecoderState). x.pending) same);
      };
      tells = λ ps h. subst (λ x. TellsTrueIn (ps ++ x) told told') (sym taken) (before_told ps h);
    }
      where
        taken : k.taken ≡ cut.before
        taken = cut.whole ∙ ap (λ x. cut.before ++ x) none ∙ append-nil cut.before

        few : length (text cut.before) ≤ sizes k.taken
        few = subst (λ x. length (text x) ≤ sizes k.taken) taken (few_taken v.decoder src k.taken _ (k.rest [] (λ end. refl)))

-- ---- a decoder's call that ended at a malformed sequence, which is reported after the text

module _ (told told1 told2 : Option (List Entry)) (v : WalkState) (p : Place) (d : DecoderState) (src : List ℕ) (last : Bool) (n : ℕ) (W : List ℕ → Type 0) (o : DecoderResult) (a b : ℕ)
    (o_is : o ≡ Malformed a b) (k : StateLaw v.decoder d src last n W o) (cs : List ℕ) (is : cs ≡ scalars k.taken)
    (tells : (ps : List Piece) (t : List ℕ) → IsPlaceAfter v.place t → TellsTrue ps (t ++ cs) told told1)
    (place : (t : List ℕ) → IsPlaceAfter v.place t → IsPlaceAfter p (t ++ cs)) (index : p.index ≡ v.place.index + length cs)
    (offset : ℕ) (offset_is : offset + a + b ≡ v.read + n)
    (malf : (qs : List Piece) → IsPlaceAfter p (text qs) → offset ≡ sizes qs → TellsTrueIn (qs ++ (malformed a ∷ [])) told1 told2) where
  abbrev first : IsCutAt o k.taken
  first = cut told told1 v p d src last n W o k cs is tells

  ends_malformed : k.taken ≡ first.before ++ (malformed a ∷ [])
  ends_malformed = first.whole ∙ ap (λ q. first.before ++ reported q) o_is

  pending : d.pending ≡ b
  pending = (subst (λ q. Reports q d.pending k.taken) o_is k.well_formed).0

  taken_size : sizes k.taken ≡ sizes first.before + a
  taken_size = ap sizes ends_malformed ∙ sizes-append first.before (malformed a ∷ []) ∙ omega arith

  offset_of : (ps : List Piece) → HasPassed v ps → offset ≡ sizes (ps ++ first.before)
  offset_of ps h = omega (arith, offset_is, h.read, k.counted, pending, taken_size, sizes-append ps first.before)

  malformed_told : (ps : List Piece) → HasPassed v ps → TellsTrueIn (ps ++ k.taken) told told2
  malformed_told ps h =
      let qs = ps ++ first.before in
      let passed = before_passed told told1 v p d src last n W o k cs is tells place index ps h in
      let all = tells_then (qs ++ (malformed a ∷ [])) (text (qs ++ (malformed a ∷ []))) told told1 told2
      (tells_in_wider qs (malformed a ∷ []) told told1 (before_told told told1 v p d src last n W o k cs is tells ps h))
      (malf qs passed (offset_of ps h)) in
      subst (λ x. TellsTrueIn x told told2) (append_assoc ps first.before (malformed a ∷ []) ∙ ap (λ x. ps ++ x) (sym ends_malformed)) all

  -- the report of the malformed sequence ended early
  pub malformed_stops : TellsPrefix told told2 v src last
  malformed_stops = record { passed = k.taken; rest = λ r end. (d.pieces (drop n src ++ r), k.rest r end); tells = malformed_told }

  -- it was reported, and passed
  pub walks_malformed : (w : WalkState) → w.decoder ≡ d → w.read ≡ v.read + n → ((t : List ℕ) → IsPlaceAfter p t → IsPlaceAfter w.place (t ++ (0xFFFD ∷ []))) → w.place.index ≡ p.index + 1
      → WalksOn told told2 v w src (drop n src) last
  walks_malformed w same read pass one = record {
    passed = k.taken;
    rest = λ r end. k.rest r end ∙ ap (λ (x : DecoderState). k.taken ++ x.pieces (drop n src ++ r)) (sym same);
    read = omega (arith, read, length-drop n src, k.within);
    within = λ h. omega (arith, h, read, few, k.counted, ap (λ (x : DecoderState). x.pending) same, one, index, ap length (is ∙ first.same), text_size);
    passes = λ ps h. record {
      place = subst (IsPlaceAfter w.place) (passed_text ps) (pass (text (ps ++ first.before)) (before_passed told told1 v p d src last n W o k cs is tells place index ps h));
      read = omega (arith, h.read, read, k.counted, sizes-append ps k.taken, ap (λ (x : DecoderState). x.pending) same);
    };
    tells = malformed_told;
  }
    where
      few : length (text k.taken) ≤ sizes k.taken
      few = few_taken v.decoder src k.taken _ (k.rest [] (λ end. refl))

      text_size : length (text k.taken) ≡ length (text first.before) + 1
      text_size = ap (λ x. length (text x)) ends_malformed ∙ ap length (text-append first.before (malformed a ∷ [])) ∙ length-append (text first.before) (0xFFFD ∷ [])

      passed_text : (ps : List Piece) → text (ps ++ first.before) ++ (0xFFFD ∷ []) ≡ text (ps ++ k.taken)
      passed_text ps = sym (text-append (ps ++ first.before) (malformed a ∷ [])) ∙ ap text (append_assoc ps first.before (malformed a ∷ []) ∙ ap (λ x. ps ++ x) (sym ends_malformed))

-- the two subtractions that give the offset of a malformed sequence
pub malformed_within : (d d' : DecoderState) (src : List ℕ) (last : Bool) (n : ℕ) (W : List ℕ → Type 0) (o : DecoderResult) (a b index read : ℕ) → o ≡ Malformed a b → StateLaw d d' src last n W o → index + d.pending ≤ read → a + b ≤ read + n
malformed_within d d' src last n W o a b index read e k h =
    let reports = subst (λ q. Reports q d'.pending k.taken) e k.well_formed in
    omega (arith, h, k.counted, reports.0, ap sizes reports.4.2, sizes-append reports.4.0 (malformed a ∷ []))

-- ---- fewer pieces are left

pub fewer_left : (d d' : DecoderState) (src : List ℕ) (last : Bool) (n : ℕ) (taken : List Piece) → ((r : List ℕ) → (last ≡ true → r ≡ []) → d.pieces (src ++ r) ≡ taken ++ d'.pieces (drop n src ++ r)) → 0 < length taken
    → length (d'.pieces (drop n src)) < length (d.pieces src)
fewer_left d d' src last n taken rest some =
    omega (arith, some, ap length (rest [] (λ end. refl)), length-append taken (d'.pieces (drop n src ++ [])), ap (λ x. length (d.pieces x)) (append-nil src), ap (λ x. length (d'.pieces x)) (append-nil (drop n src)))

pub some_malformed : (o : DecoderResult) (a b pending : ℕ) (taken : List Piece) → o ≡ Malformed a b → Reports o pending taken → 0 < length taken
some_malformed o a b pending taken e h =
    let reports = subst (λ q. Reports q pending taken) e h in
    omega (arith, ap length reports.4.2, length-append reports.4.0 (malformed a ∷ []))

-- a call that found less than four bytes free at the end of a longer buffer took something
pub some_written : (taken : List Piece) (old new : List ℕ) (written : ℕ) → Adds old 0 (encode_utf8_all (scalars taken)) new written → length (drop written new) < 4 → 4 ≤ length new → 0 < length taken
some_written [] old new written w free long = absurd (omega (arith, w.counted, free, long, length-drop written new))
some_written (p ∷ ps) old new written w free long = omega arith

-- ---- walks add up

pub walks_then : (a b c : Option (List Entry)) (u v w : WalkState) (x y z : List ℕ) (last : Bool) → WalksOn a b u v x y last → WalksOn b c v w y z last → WalksOn a c u w x z last
walks_then a b c u v w x y z last h k = record {
  passed = h.passed ++ k.passed;
  rest = λ r end. h.rest r end ∙ ap (λ ps. h.passed ++ ps) (k.rest r end) ∙ sym (append_assoc h.passed k.passed (w.decoder.pieces (z ++ r)));
  read = omega (arith, h.read, k.read);
  within = λ e. k.within (h.within e);
  passes = λ ps e. subst (HasPassed w) (append_assoc ps h.passed k.passed) (k.passes (ps ++ h.passed) (h.passes ps e));
  tells = λ ps e. subst (λ q. TellsTrueIn q a c) (append_assoc ps h.passed k.passed)
      (tells_then ((ps ++ h.passed) ++ k.passed) (text ((ps ++ h.passed) ++ k.passed)) a b c (tells_in_wider (ps ++ h.passed) k.passed a b (h.tells ps e)) (k.tells (ps ++ h.passed) (h.passes ps e)));
}

pub walks_stops : (a b c : Option (List Entry)) (u v : WalkState) (x y : List ℕ) (last : Bool) → WalksOn a b u v x y last → TellsPrefix b c v y last → TellsPrefix a c u x last
walks_stops a b c u v x y last h k = record {
  passed = h.passed ++ k.passed;
  rest = λ r end. let left = k.rest r end in (left.0, h.rest r end ∙ ap (λ ps. h.passed ++ ps) left.1 ∙ sym (append_assoc h.passed k.passed left.0));
  tells = λ ps e. subst (λ q. TellsTrueIn q a c) (append_assoc ps h.passed k.passed)
      (tells_then ((ps ++ h.passed) ++ k.passed) (text ((ps ++ h.passed) ++ k.passed)) a b c (tells_in_wider (ps ++ h.passed) k.passed a b (h.tells ps e)) (k.tells (ps ++ h.passed) (h.passes ps e)));
}

pub walks_start : (a : Option (List Entry)) (v : WalkState) (x : List ℕ) (last : Bool) → WalksOn a a v v x x last
walks_start a v x last = record {
  passed = [];
  rest = λ r end. refl;
  read = refl;
  within = λ e. e;
  passes = λ ps e. subst (HasPassed v) (sym (append-nil ps)) e;
  tells = λ ps e. tells_nothing (ps ++ []) (text (ps ++ [])) a;
}

-- ---- whether the decoder came to its end

pub finishes_last : (last : Bool) (o : DecoderResult) → last ≡ false → finishes last o ≡ false
finishes_last last o h = ap (λ l. finishes l o) h

pub finishes_not : (last : Bool) (o : DecoderResult) → is_input_empty o ≡ false → finishes last o ≡ false
finishes_not true o h = h
finishes_not false o h = refl

pub end_none : (d : DecoderState) (last : Bool) → last ≡ true → ((d.pending ≡ 0) × (d.pieces [] ≡ [])) ⊎ ((last ≡ false) × Waits d.pieces d.pending) → d.pieces [] ≡ []
end_none d last h (inl k) = k.1
end_none d last h (inr k) = absurd (false≢true (sym k.0 ∙ h))

-- ---- a whole input

-- what follows what was read: nothing after the end, and else what is left
walks_read : (a b : Option (List Entry)) (v w : WalkState) (chunk y : List ℕ) (last : Bool) → (last ≡ true → y ≡ []) → WalksOn a b v w chunk [] last → WalksOn a b v w (chunk ++ y) y true
walks_read a b v w chunk y last end h = record {
  passed = h.passed;
  rest = λ r e. ap v.decoder.pieces (append_assoc chunk y r) ∙ h.rest (y ++ r) (λ l. both_empty (end l) (e refl));
  read = omega (arith, h.read, length-append chunk y);
  within = h.within;
  passes = h.passes;
  tells = h.tells;
}
  where
    both_empty : {r : List ℕ} → y ≡ [] → r ≡ [] → y ++ r ≡ []
    both_empty {r} e f = ap (λ z. z ++ r) e ∙ f

pub walks_from : (a b c : Option (List Entry)) (u v w : WalkState) (x y z : Option (List ℕ)) (chunk : List ℕ) (last : Bool) → WalksInput a b u v x y → Consumes y z chunk → (last ≡ true → IsAtEnd z) → WalksOn b c v w chunk [] last
    → WalksInput a c u w x z
walks_from a b c u v w None y z chunk last h k end g = tt
walks_from a b c u v w (Some x) None z chunk last h k end g = absurd h
walks_from a b c u v w (Some x) (Some y) None chunk last h k end g = absurd k
walks_from a b c u v w (Some x) (Some y) (Some z) chunk last h k end g =
    walks_then a b c u v w x y z true h (subst (λ q. WalksOn b c v w q z true) (sym k) (walks_read b c v w chunk z last end g))

pub walks_new : (a : Option (List Entry)) (v : WalkState) (x : Option (List ℕ)) → WalksInput a a v v x x
walks_new a v None = tt
walks_new a v (Some x) = walks_start a v x true

module _ (a b : Option (List Entry)) (v : WalkState) (pieces : List ℕ → List Piece) (new : HasPassed v []) (is : (x : List ℕ) → v.decoder.pieces x ≡ pieces x) where
  told_in : (x : List ℕ) → TellsPrefix a b v x true → TellsTrueIn (pieces x) a b
  told_in x h =
      let left = h.rest [] (λ e. refl) in
      let all : h.passed ++ left.0 ≡ pieces x = sym left.1 ∙ ap v.decoder.pieces (append-nil x) ∙ is x in
      subst (λ ps. TellsTrueIn ps a b) all (tells_in_wider h.passed left.0 a b (h.tells [] new))

  pub tells_known : (w : WalkState) (x y : Option (List ℕ)) → WalksInput a b v w x y → IfSome x (λ x. TellsTrueIn (pieces x) a b)
  tells_known w None y h = tt
  tells_known w (Some x) None h = absurd h
  tells_known w (Some x) (Some y) h = told_in x (record { passed = h.passed; rest = λ r e. (w.decoder.pieces (y ++ r), h.rest r e); tells = h.tells })

  pub stops_known : (m : Option (List Entry)) (w : WalkState) (x y z : Option (List ℕ)) (chunk : List ℕ) (last : Bool) → WalksInput a m v w x y → Consumes y z chunk → (last ≡ true → IsAtEnd z) → TellsPrefix m b w chunk last
      → IfSome x (λ x. TellsTrueIn (pieces x) a b)
  stops_known m w None y z chunk last h k end g = tt
  stops_known m w (Some x) None z chunk last h k end g = absurd h
  stops_known m w (Some x) (Some y) None chunk last h k end g = absurd k
  stops_known m w (Some x) (Some y) (Some z) chunk last h k end g =
      told_in x (walks_stops a m b v w x y true h (subst (λ q. TellsPrefix m b w q true) (sym k) (record {
        passed = g.passed;
        rest = λ r e. let left = g.rest (z ++ r) (λ l. ap (λ q. q ++ r) (end l) ∙ e refl) in (left.0, ap w.decoder.pieces (append_assoc chunk z r) ∙ left.1);
        tells = g.tells;
      })))
