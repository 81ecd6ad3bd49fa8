-- What a walk has still to pass: what is left of a log fits it, and what is found in it is still to be reported.
use Rattle.std.proofs.Common.{◌≡◌, ℕ, ◌+◌, ◌-◌, ◌<◌, ◌≤◌, Bool, true, Option, Some, None, Result, Ok, Err, IfErr, IsErrAnd, IsOk, List, [], ◌∷◌, ◌++◌, refl, sym, ◌∙◌, ap, subst, arith, append-nil, append_assoc, length, drop}
use Rattle.encoding_mem.specs.Piece.{Piece, well_formed, malformed, sizes, scalars, text, AreWellFormed, ArePieces}
use Rattle.encoding_mem.specs.laws.Piece.{sizes-append}
use Rattle.encoding_mem.specs.calls.Decoding.{DecoderState, Reports, StateLaw}
use Rattle.encoding_mem.specs.declared.codec.decoder_result.DecoderResult.{DecoderResult}
use Rattle.encoding_mem.specs.declared.codec.decoder_result.DecoderResult.TheVariants.{Malformed}
use Rattle.std.proofs.lemmas.Bool.{false≢true}
use Rattle.std.proofs.lemmas.Option.{none-some, same_Some}
use Rattle.std.specs.Io.KnownBytes.{Consumes, IsAtEnd}
use Rattle.recode_places.specs.Findings.{Asked, Found, TellsFound, found_in, found_in_text}
use Rattle.recode_places.specs.Fits.{Fits, FitsFrom, FitsText, IsLeftOfLog, IsNotUnfit}
use Rattle.recode_places.specs.declared.entry.Entry.{Entry}
use Rattle.recode_places.specs.declared.entry.Finding.TheVariants as found
use Rattle.recode_places.specs.declared.entry.Stop.{Stop}
use Rattle.recode_places.specs.Logs.{IsLogEnd, LogLeft, bytes, ended, broken, unknown}
use Rattle.recode_places.specs.calls.Walks.{FitsAhead, TellsPassed, WalkState, found_ahead}
use Rattle.recode_places.proofs.CallLemmas.{IsCutAt, cut_at, reported, taken_pieces}
use Rattle.recode_places.proofs.FoundLemmas.{found_at, found_before, found_then, pieces_found}

pub left_map : (P Q : List ℕ → Type 0) (left : LogLeft) → ((x : List ℕ) → P x → Q x) → IsLeftOfLog P left → IsLeftOfLog Q left
left_map P Q (bytes x) f h = f x h
left_map P Q ended f h = tt
left_map P Q broken f h = h
left_map P Q unknown f h = h

text_then : (i : ℕ) (cs t : List ℕ) (P After : ℕ → List ℕ → Type 0) (bs : List ℕ) → ((j : ℕ) (x : List ℕ) → P j x → FitsText j t After x) → FitsText i cs P bs → FitsText i (cs ++ t) After bs
text_then i [] t P After bs f h = f i bs h
text_then i (c ∷ cs) t P After bs f h = (h.0, h.1, h.2, h.3, text_then (i + 1) cs t P After h.1 f h.4)

-- well-formed pieces, by their text
fits_text : (i o : ℕ) (before qs : List Piece) (bs : List ℕ) → AreWellFormed before → Fits i o (before ++ qs) bs → FitsFrom i (o + sizes before) (text before) qs bs
fits_text i o [] qs bs w h = subst (λ p. Fits i p qs bs) (omega arith) h
fits_text i o (well_formed n cs ∷ ps) qs bs w h =
    subst (λ p. FitsText i (cs ++ text ps) (λ j. Fits j p qs) bs) (omega arith)
    (text_then i cs (text ps) (λ j. Fits j (o + n) (ps ++ qs)) (λ j. Fits j (o + n + sizes ps) qs) bs (λ j x k. fits_text j (o + n) ps qs x w.1 k) h)
fits_text i o (malformed n ∷ ps) qs bs w h = absurd w.0

last_piece : (ps : List Piece) (n : ℕ) → ArePieces (ps ++ (malformed n ∷ [])) → 0 < n
last_piece [] n h = h.0.some
last_piece (p ∷ ps) n h = last_piece ps n h.1

module _ (v : WalkState) (d : DecoderState) (src : List ℕ) (last : Bool) (n : ℕ) (W : List ℕ → Type 0) (o : DecoderResult) (k : StateLaw v.decoder d src last n W o)
    (cs : List ℕ) (is : cs ≡ scalars k.taken) (within : v.place.index + v.decoder.pending ≤ v.read) (r : List ℕ) (end : last ≡ true → r ≡ []) where
  abbrev parts : IsCutAt o k.taken
  parts = cut_at o d.pending k.taken k.well_formed

  -- where what comes after the text stands
  abbrev pub offset_after : ℕ
  offset_after = v.read - v.decoder.pending + sizes parts.before

  -- what comes next, cut after the text that a call gave
  cut_ahead : v.decoder.pieces (src ++ r) ≡ parts.before ++ (reported o ++ d.pieces (drop n src ++ r))
  cut_ahead = k.rest r end ∙ ap (λ ps. ps ++ d.pieces (drop n src ++ r)) parts.whole ∙ append_assoc parts.before (reported o) (d.pieces (drop n src ++ r))

  -- the text that a call gave
  pub ahead_text : (left : LogLeft) → FitsAhead v left (src ++ r) → IsLeftOfLog (FitsFrom v.place.index offset_after cs (reported o ++ d.pieces (drop n src ++ r))) left
  ahead_text left h =
      let qs = reported o ++ d.pieces (drop n src ++ r) in
      subst (λ t. IsLeftOfLog (FitsFrom v.place.index offset_after t qs) left) (sym (is ∙ parts.same))
      (left_map _ _ left (λ x m. fits_text v.place.index (v.read - v.decoder.pending) parts.before qs x parts.well_formed (subst (λ ps. Fits v.place.index (v.read - v.decoder.pending) ps x) cut_ahead m)) h)

  -- a call that reported nothing
  done_offset : reported o ≡ [] → offset_after ≡ v.read + n - d.pending
  done_offset none = omega (arith, within, k.counted, ap sizes (parts.whole ∙ ap (λ x. parts.before ++ x) none ∙ append-nil parts.before))

  pub ahead_done : (i : ℕ) (left : LogLeft) → reported o ≡ [] → IsLeftOfLog (Fits i offset_after (reported o ++ d.pieces (drop n src ++ r))) left
      → IsLeftOfLog (Fits i (v.read + n - d.pending) (d.pieces (drop n src ++ r))) left
  ahead_done i left none h =
      subst (λ p. IsLeftOfLog (Fits i p (d.pieces (drop n src ++ r))) left) (done_offset none)
      (subst (λ q. IsLeftOfLog (Fits i offset_after (q ++ d.pieces (drop n src ++ r))) left) none h)

  -- what is found in the text, and then what is still ahead
  found_ahead_text : (a : Asked) (i : ℕ) → i ≡ v.place.index + length cs
      → found_ahead a v (src ++ r) ≡ found_in_text a v.place.index cs ++ found_in a i offset_after (reported o ++ d.pieces (drop n src ++ r))
  found_ahead_text a i index =
      let qs = reported o ++ d.pieces (drop n src ++ r) in
      ap (found_in a v.place.index (v.read - v.decoder.pending)) cut_ahead ∙ pieces_found a v.place.index (v.read - v.decoder.pending) parts.before qs parts.well_formed
      ∙ ap (λ t. found_in_text a v.place.index t ++ found_in a (v.place.index + length t) offset_after qs) (sym (is ∙ parts.same))
      ∙ ap (λ j. found_in_text a v.place.index cs ++ found_in a j offset_after qs) (sym index)

  pub tells_done : (a : Asked) (i : ℕ) (t u : Option (List Entry)) → reported o ≡ [] → i ≡ v.place.index + length cs → TellsFound a (found_in_text a v.place.index cs) [] t u
      → TellsFound a (found_ahead a v (src ++ r)) (found_in a i (v.read + n - d.pending) (d.pieces (drop n src ++ r))) t u
  tells_done a i t u none index h =
      let qs = d.pieces (drop n src ++ r) in
      let here = found_in_text a v.place.index cs in
      let rest = found_in a i (v.read + n - d.pending) qs in
      let ahead = found_ahead_text a i index ∙ ap (λ x. here ++ x) (ap (λ q. found_in a i offset_after (q ++ qs)) none ∙ ap (λ p. found_in a i p qs) (done_offset none)) in
      subst (λ fs. TellsFound a fs rest t u) (sym ahead) (found_before a here rest t u h)

  -- a call that reported a malformed sequence
  module _ (a b : ℕ) (o_is : o ≡ Malformed a b) where
    ends : k.taken ≡ parts.before ++ (malformed a ∷ [])
    ends = parts.whole ∙ ap (λ q. parts.before ++ reported q) o_is

    pending : d.pending ≡ b
    pending = (subst (λ q. Reports q d.pending k.taken) o_is k.well_formed).0

    pub some_bytes : 0 < a
    some_bytes = last_piece parts.before a (subst ArePieces ends (taken_pieces v.decoder src k.taken _ (k.rest [] (λ e. refl))))

    malformed_offset : (offset : ℕ) → offset + a + b ≡ v.read + n → offset_after ≡ offset
    malformed_offset offset there = omega (arith, within, there, k.counted, ap sizes ends, sizes-append parts.before (malformed a ∷ []), pending)

    pub ahead_malformed : (offset i : ℕ) (left : LogLeft) → offset + a + b ≡ v.read + n → IsLeftOfLog (Fits i offset_after (reported o ++ d.pieces (drop n src ++ r))) left
        → IsLeftOfLog (Fits i offset (malformed a ∷ d.pieces (drop n src ++ r))) left
    ahead_malformed offset i left there h =
        subst (λ p. IsLeftOfLog (Fits i p (malformed a ∷ d.pieces (drop n src ++ r))) left) (malformed_offset offset there)
        (subst (λ q. IsLeftOfLog (Fits i offset_after (reported q ++ d.pieces (drop n src ++ r))) left) o_is h)

    passed_offset : (offset : ℕ) → offset + a + b ≡ v.read + n → offset + a ≡ v.read + n - d.pending
    passed_offset offset spot = omega (arith, spot, pending)

    pub ahead_passed : (offset i j : ℕ) (left : LogLeft) → offset + a + b ≡ v.read + n → j ≡ i + 1 → IsLeftOfLog (Fits (i + 1) (offset + a) (d.pieces (drop n src ++ r))) left
        → IsLeftOfLog (Fits j (v.read + n - d.pending) (d.pieces (drop n src ++ r))) left
    ahead_passed offset i j left spot index h =
        subst (λ p. IsLeftOfLog (Fits j p (d.pieces (drop n src ++ r))) left) (passed_offset offset spot)
        (subst (λ q. IsLeftOfLog (Fits q (offset + a) (d.pieces (drop n src ++ r))) left) (sym index) h)

    pub tells_malformed : (q q' : Asked) (offset i j : ℕ) (t u w : Option (List Entry)) → offset + a + b ≡ v.read + n → i ≡ v.place.index + length cs → j ≡ i + 1 → q' ≡ q
        → TellsFound q (found_in_text q v.place.index cs) [] t u → TellsFound q' ((i, found.Malformed offset a) ∷ []) [] u w
        → TellsFound q (found_ahead q v (src ++ r)) (found_in q j (v.read + n - d.pending) (d.pieces (drop n src ++ r))) t w
    tells_malformed q q' offset i j t u w there index passed same h m =
        let qs = d.pieces (drop n src ++ r) in
        let rest = found_in q j (v.read + n - d.pending) qs in
        let here = found_in_text q v.place.index cs in
        let sequence : Found = (i, found.Malformed offset a) in
        let next = ap (λ x. found_in q i offset_after (reported x ++ qs)) o_is ∙ ap (λ p. found_in q i p (malformed a ∷ qs)) (malformed_offset offset there)
        ∙ ap (λ x. sequence ∷ x) (found_at q (i + 1) j (offset + a) (v.read + n - d.pending) qs (sym passed) (passed_offset offset there)) in
        subst (λ fs. TellsFound q fs rest t w) (sym (found_ahead_text q i index ∙ ap (λ x. here ++ x) next))
        (found_then q q' (here ++ (sequence ∷ rest)) (sequence ∷ rest) rest t u w same
        (found_before q here (sequence ∷ rest) t u h) (found_before q' (sequence ∷ []) rest u w m))

-- ---- a whole input

pub ahead_new : (index pending : ℕ) (held pieces : List ℕ → List Piece) (left : LogLeft) → index ≡ 0 → ((x : List ℕ) → held x ≡ pieces x) → (x : List ℕ) → IsLeftOfLog (Fits 0 0 (pieces x)) left → IsLeftOfLog (Fits index (0 - pending) (held x)) left
ahead_new index pending held pieces left first is x h =
    let offset : 0 - pending ≡ 0 = omega arith in
    subst (λ ps. IsLeftOfLog (Fits index (0 - pending) ps) left) (sym (is x))
    (subst (λ i. IsLeftOfLog (Fits i (0 - pending) (pieces x)) left) (sym first)
    (subst (λ p. IsLeftOfLog (Fits 0 p (pieces x)) left) (sym offset) h))

-- what a reader has after a read
pub consumed : (old new : Option (List ℕ)) (bs y : List ℕ) → Consumes old new bs → old ≡ Some y → (z : List ℕ) × (new ≡ Some z) × (y ≡ bs ++ z)
consumed None new bs y h e = absurd (none-some y e)
consumed (Some x) None bs y h e = absurd h
consumed (Some x) (Some z) bs y h e = (z, refl, sym (same_Some x y e) ∙ h)

pub at_end : (new : Option (List ℕ)) (z : List ℕ) → new ≡ Some z → IsAtEnd new → z ≡ []
at_end None z e h = absurd (none-some z e)
at_end (Some x) z e h = sym (same_Some x z e) ∙ h

pub ends_ahead : (w : WalkState) (left : LogLeft) (z : List ℕ) → z ≡ [] → w.decoder.pieces [] ≡ [] → FitsAhead w left z → IsLeftOfLog IsLogEnd left
ends_ahead w left z none end h =
    subst (λ ps. IsLeftOfLog (Fits w.place.index (w.read - w.decoder.pending) ps) left) (ap w.decoder.pieces none ∙ end) h

-- more was passed
pub tells_passed : (a b : Asked) (fs : List Found) (w w' : WalkState) (t u s : Option (List Entry)) (xs ys : List ℕ) → b ≡ a → TellsFound a fs (found_ahead a w xs) t u → TellsPassed b w w' xs ys u s → TellsFound a fs (found_ahead a w' ys) t s
tells_passed a b fs w w' t u s xs ys same h k = found_then a a fs (found_ahead a w xs) (found_ahead a w' ys) t u s refl h (subst (λ x. TellsPassed x w w' xs ys u s) same k)

-- what was read was passed
pub tells_read : (a b : Asked) (fs : List Found) (w w' : WalkState) (t u s : Option (List Entry)) (xs y z : List ℕ) → b ≡ a → y ≡ xs ++ z → TellsFound a fs (found_ahead a w y) t u → TellsPassed b w w' (xs ++ z) z u s
    → TellsFound a fs (found_ahead a w' z) t s
tells_read a b fs w w' t u s xs y z same is h k = tells_passed a b fs w w' t u s (xs ++ z) z same (subst (λ x. TellsFound a fs (found_ahead a w x) t u) is h) k

-- nothing is left to be found
pub tells_all : (a : Asked) (index pending : ℕ) (held pieces : List ℕ → List Piece) (w : WalkState) (t u : Option (List Entry)) → index ≡ 0 → ((x : List ℕ) → held x ≡ pieces x) → (x z : List ℕ) → z ≡ [] → w.decoder.pieces [] ≡ []
    → TellsFound a (found_in a index (0 - pending) (held x)) (found_ahead a w z) t u → TellsFound a (found_in a 0 0 (pieces x)) [] t u
tells_all a index pending held pieces w t u first is x z none end h =
    let offset : 0 - pending ≡ 0 = omega arith in
    let begins = ap (found_in a index (0 - pending)) (is x) ∙ found_at a index 0 (0 - pending) 0 (pieces x) first offset in
    let ends = ap (found_in a w.place.index (w.read - w.decoder.pending)) (ap w.decoder.pieces none ∙ end) in
    subst (λ fs. TellsFound a fs [] t u) begins (subst (λ gs. TellsFound a (found_in a index (0 - pending) (held x)) gs t u) ends h)

pub if_err : {T : Type 0} (r : Result T Stop) (e : Stop) → IsErrAnd r (λ x. x ≡ e) → IsNotUnfit e → IfErr r IsNotUnfit
if_err (Ok x) e same h = tt
if_err (Err x) e same h = subst IsNotUnfit (sym same) h

pub if_ok : {T : Type 0} (r : Result T Stop) → IsOk r → IfErr r IsNotUnfit
if_ok (Ok x) h = tt
if_ok (Err x) h = absurd (false≢true h)
