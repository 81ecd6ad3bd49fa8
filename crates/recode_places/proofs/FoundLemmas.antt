-- All that was found is reported, report by report.
use Rattle.std.proofs.Common.{◌≡◌, ℕ, ◌+◌, false, List, [], ◌∷◌, ◌++◌, length, map, Option, Some, None, inl, inr, refl, sym, ◌∙◌, ap, subst, arith, append_assoc, append-nil}
use Rattle.std.proofs.lemmas.Bool.{false≢true}
use Rattle.std.proofs.lemmas.List.{length-append, map-append}
use Rattle.encoding_mem.specs.Piece.{Piece, well_formed, malformed, sizes, text, AreWellFormed}
use Rattle.recode_places.specs.Entries.{HasOneMore}
use Rattle.recode_places.specs.Fates.{Target}
use Rattle.recode_places.specs.Findings.{Asked, Found, TellsFound, fate_asked, found_by, found_in, found_in_text, if_any, told_by_fate}
use Rattle.recode_places.specs.calls.FatesViews.{AreKeptIfAsked, IsToldOf}
use Rattle.recode_places.specs.declared.entry.Entry.{Entry}
use Rattle.recode_places.specs.declared.entry.Finding.{Finding}
use Rattle.recode_places.specs.declared.fates.Fate.TheVariants.{Kept}

-- ---- findings of a text and of pieces

any_append : (i : ℕ) (f : Option Finding) (fs gs : List Found) → if_any i f (fs ++ gs) ≡ if_any i f fs ++ gs
any_append i None fs gs = refl
any_append i (Some f) fs gs = refl

pub text_found-append : (a : Asked) (i : ℕ) (t u : List ℕ) → found_in_text a i (t ++ u) ≡ found_in_text a i t ++ found_in_text a (i + length t) u
text_found-append a i [] u =
    let same : i ≡ i + 0 = omega arith in
    ap (λ j. found_in_text a j u) same
text_found-append a i (c ∷ t) u =
    let told = told_by_fate a c (fate_asked a.target c) in
    let first = found_in_text a (i + 1) t in
    let after : i + 1 + length t ≡ i + length (c ∷ t) = omega arith in
    ap (if_any i told) (text_found-append a (i + 1) t u ∙ ap (λ j. first ++ found_in_text a j u) after)
    ∙ any_append i told first (found_in_text a (i + length (c ∷ t)) u)

-- pieces that stand elsewhere
pub found_at : (a : Asked) (i j o p : ℕ) (qs : List Piece) → i ≡ j → o ≡ p → found_in a i o qs ≡ found_in a j p qs
found_at a i j o p qs index offset = ap (λ x. found_in a x o qs) index ∙ ap (λ x. found_in a j x qs) offset

-- well-formed pieces, by their text
pub pieces_found : (a : Asked) (i o : ℕ) (before qs : List Piece) → AreWellFormed before
    → found_in a i o (before ++ qs) ≡ found_in_text a i (text before) ++ found_in a (i + length (text before)) (o + sizes before) qs
pieces_found a i o [] qs w = found_at a i (i + 0) o (o + 0) qs (omega arith) (omega arith)
pieces_found a i o (well_formed n cs ∷ ps) qs w =
    let first = found_in_text a i cs in
    let rest = found_in_text a (i + length cs) (text ps) in
    let index : i + length cs + length (text ps) ≡ i + length (cs ++ text ps) = omega (arith, length-append cs (text ps)) in
    let offset : o + n + sizes ps ≡ o + (n + sizes ps) = omega arith in
    let later = found_in a (i + length (cs ++ text ps)) (o + (n + sizes ps)) qs in
    let moved = found_at a (i + length cs + length (text ps)) (i + length (cs ++ text ps)) (o + n + sizes ps) (o + (n + sizes ps)) qs index offset in
    ap (λ x. first ++ x) (pieces_found a (i + length cs) (o + n) ps qs w.1 ∙ ap (λ x. rest ++ x) moved)
    ∙ sym (append_assoc first rest later)
    ∙ ap (λ x. x ++ later) (sym (text_found-append a i cs (text ps)))
pieces_found a i o (malformed n ∷ ps) qs w = absurd w.0

first_kept : (target : Option Target) (c : ℕ) (t : List ℕ) → AreKeptIfAsked target (c ∷ t) → (fate_asked target c ≡ Kept) × AreKeptIfAsked target t
first_kept None c t h = (refl, tt)
first_kept (Some target) c t h = h

-- nothing is found in a text that is kept
pub kept_found : (a : Asked) (i : ℕ) (t : List ℕ) → AreKeptIfAsked a.target t → found_in_text a i t ≡ []
kept_found a i [] h = refl
kept_found a i (c ∷ t) h =
    let first = first_kept a.target c t h in
    ap (λ f. if_any i (told_by_fate a c f) (found_in_text a (i + 1) t)) first.0 ∙ kept_found a (i + 1) t first.1

-- ---- reports

pub found_none : (a : Asked) (fs gs : List Found) (t : Option (List Entry)) → fs ≡ gs → TellsFound a fs gs t t
found_none a fs gs None e none = tt
found_none a fs gs (Some es) e none = ([], ap Some (sym (append-nil es)), e)

pub found_entry : (a : Asked) (t u : Option (List Entry)) (e : Entry) → HasOneMore t u e → TellsFound a (found_by e ∷ []) [] t u
found_entry a None u e one none = tt
found_entry a (Some es) u e one none = (e ∷ [], one, refl)

-- what is reported of a character, without a log
by_fate : (a : Asked) (i c : ℕ) (told : Option Finding) → IsToldOf a c told → a.has_log ≡ false → if_any i told [] ≡ found_in_text a i (c ∷ [])
by_fate a i c told (inl e) none = ap (λ f. if_any i f []) e
by_fate a i c told (inr named) none = absurd (false≢true (sym none ∙ named.0))

pub found_one : (a : Asked) (c : ℕ) (t u : Option (List Entry)) (e : Entry) → IsToldOf a c (Some e.finding) → HasOneMore t u e → TellsFound a (found_in_text a e.place.index (c ∷ [])) [] t u
found_one a c t u e h one none = subst (λ fs. TellsFound a fs [] t u) (by_fate a e.place.index c (Some e.finding) h none) (found_entry a t u e one) none

pub found_nothing : (a : Asked) (i c : ℕ) (t : Option (List Entry)) → IsToldOf a c None → TellsFound a (found_in_text a i (c ∷ [])) [] t t
found_nothing a i c t h none = found_none a (found_in_text a i (c ∷ [])) [] t (sym (by_fate a i c None h none)) none

pub found_then : (a b : Asked) (fs gs hs : List Found) (t u v : Option (List Entry)) → b ≡ a → TellsFound a fs gs t u → TellsFound b gs hs u v → TellsFound a fs hs t v
found_then a b fs gs hs None u v same h k none = tt
found_then a b fs gs hs (Some es) u v same h k none =
    let first = h none in
    let next = subst (λ x. TellsFound a gs hs x v) first.1 (subst (λ x. TellsFound x gs hs u v) same k) none in (
      first.0 ++ next.0,
      next.1 ∙ ap Some (append_assoc es first.0 next.0),
      first.2 ∙ ap (λ x. map found_by first.0 ++ x) next.2 ∙ sym (append_assoc (map found_by first.0) (map found_by next.0) hs) ∙ ap (λ x. x ++ hs) (sym (map-append found_by first.0 next.0)),
    )

-- more is found after it
pub found_before : (a : Asked) (fs gs : List Found) (t u : Option (List Entry)) → TellsFound a fs [] t u → TellsFound a (fs ++ gs) gs t u
found_before a fs gs None u h none = tt
found_before a fs gs (Some es) u h none =
    let first = h none in
    (first.0, first.1, ap (λ x. x ++ gs) (first.2 ∙ append-nil (map found_by first.0)))

-- a text, and then some more of it
pub found_on : (a b : Asked) (i j : ℕ) (xs ys : List ℕ) (t u v : Option (List Entry)) → b ≡ a → j ≡ i + length xs → TellsFound a (found_in_text a i xs) [] t u → TellsFound b (found_in_text b j ys) [] u v
    → TellsFound a (found_in_text a i (xs ++ ys)) [] t v
found_on a b i j xs ys t u v same index h k =
    let first = found_in_text a i xs in
    let more = found_in_text a j ys in
    let all = text_found-append a i xs ys ∙ ap (λ x. first ++ found_in_text a x ys) (sym index) in
    subst (λ fs. TellsFound a fs [] t v) (sym all)
    (found_then a a (first ++ more) more [] t u v refl (found_before a first more t u h) (subst (λ x. TellsFound x (found_in_text x j ys) [] u v) same k))
