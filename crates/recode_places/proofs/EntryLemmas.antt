-- What was reported stays true of more pieces and of more text, and reports add up.
use Rattle.std.proofs.Common.{◌≡◌, ◌≤◌, ◌<◌, ℕ, suc, arith, List, [], ◌∷◌, ◌++◌, Option, Some, None, Result, Ok, Err, IsErrAnd, sym, ◌∙◌, ap, subst, append_assoc, append-nil}
use Rattle.encoding_mem.specs.Piece.{Piece, malformed}
use Rattle.recode_places.specs.Entries.{ComeInOrder, AreTrue, HasOneMore, IsFoundAt, RisesTo, TellsRising, TellsTrue}
use Rattle.recode_places.specs.declared.entry.Entry.{Entry}
use Rattle.recode_places.specs.declared.entry.Finding.{Finding}
use Rattle.recode_places.specs.declared.entry.Finding.TheVariants.{Malformed, Lost, Folded}
use Rattle.recode_places.specs.declared.place.Place.{Place}

pub found_wider : (ps qs : List Piece) (t u : List ℕ) (p : Place) (f : Finding) → IsFoundAt ps t p f → IsFoundAt (ps ++ qs) (t ++ u) p f
found_wider ps qs t u p (Malformed offset n) h =
    (h.0, h.1 ++ qs, ap (λ x. x ++ qs) h.2 ∙ append_assoc h.0 (malformed n ∷ h.1) qs, h.3, h.4)
found_wider ps qs t u p (Lost c) h = (h.0, h.1 ++ u, ap (λ x. x ++ u) h.2 ∙ append_assoc h.0 (c ∷ h.1) u, h.3)
found_wider ps qs t u p (Folded c d) h = (h.0, h.1 ++ u, ap (λ x. x ++ u) h.2 ∙ append_assoc h.0 (c ∷ h.1) u, h.3)

true_wider : (ps qs : List Piece) (t u : List ℕ) (es : List Entry) → AreTrue ps t es → AreTrue (ps ++ qs) (t ++ u) es
true_wider ps qs t u [] h = tt
true_wider ps qs t u (e ∷ es) h = (found_wider ps qs t u e.place e.finding h.0, true_wider ps qs t u es h.1)

true_append : (ps : List Piece) (t : List ℕ) (es fs : List Entry) → AreTrue ps t es → AreTrue ps t fs → AreTrue ps t (es ++ fs)
true_append ps t [] fs h k = k
true_append ps t (e ∷ es) fs h k = (h.0, true_append ps t es fs h.1 k)

pub tells_nothing : (ps : List Piece) (t : List ℕ) (a : Option (List Entry)) → TellsTrue ps t a a
tells_nothing ps t None = tt
tells_nothing ps t (Some es) = ([], ap Some (sym (append-nil es)), tt)

pub tells_wider : (ps qs : List Piece) (t u : List ℕ) (a b : Option (List Entry)) → TellsTrue ps t a b → TellsTrue (ps ++ qs) (t ++ u) a b
tells_wider ps qs t u None b h = tt
tells_wider ps qs t u (Some es) b h = (h.0, h.1, true_wider ps qs t u h.0 h.2)

pub tells_then : (ps : List Piece) (t : List ℕ) (a b c : Option (List Entry)) → TellsTrue ps t a b → TellsTrue ps t b c → TellsTrue ps t a c
tells_then ps t None b c h k = tt
tells_then ps t (Some es) b c h k =
    let next = subst (λ x. TellsTrue ps t x c) h.1 k in
    (h.0 ++ next.0, next.1 ∙ ap Some (append_assoc es h.0 next.0), true_append ps t h.0 next.0 h.2 next.2)

pub tells_one : (ps : List Piece) (t : List ℕ) (a b : Option (List Entry)) (e : Entry) → HasOneMore a b e → IsFoundAt ps t e.place e.finding → TellsTrue ps t a b
tells_one ps t None b e h k = tt
tells_one ps t (Some es) b e h k = (e ∷ [], h, (k, tt))

-- more text
pub tells_longer : (ps : List Piece) (t u : List ℕ) (a b : Option (List Entry)) → TellsTrue ps t a b → TellsTrue ps (t ++ u) a b
tells_longer ps t u a b h = subst (λ x. TellsTrue x (t ++ u) a b) (append-nil ps) (tells_wider ps [] t u a b h)

-- a text, and then some more text
pub tells_on : (ps : List Piece) (t u w : List ℕ) (a b c : Option (List Entry)) → TellsTrue ps (t ++ u) a b → TellsTrue ps ((t ++ u) ++ w) b c → TellsTrue ps (t ++ (u ++ w)) a c
tells_on ps t u w a b c h k =
    subst (λ x. TellsTrue ps x a c) (append_assoc t u w) (tells_then ps ((t ++ u) ++ w) a b c (tells_longer ps (t ++ u) w a b h) k)

-- a prefix of a text
pub tells_prefix : (ps : List Piece) (t u rest all : List ℕ) (a b : Option (List Entry)) → all ≡ u ++ rest → TellsTrue ps (t ++ u) a b → TellsTrue ps (t ++ all) a b
tells_prefix ps t u rest all a b e h =
    subst (λ x. TellsTrue ps x a b) (append_assoc t u rest ∙ ap (λ x. t ++ x) (sym e)) (tells_longer ps (t ++ u) rest a b h)

-- ---- entries in their order

rising_lower : (i j k : ℕ) (es : List Entry) → i ≤ j → ComeInOrder j k es → ComeInOrder i k es
rising_lower i j k [] h l = omega (arith, h, l)
rising_lower i j k (e ∷ es) h l = (omega (arith, h, l.0), l.1)

rising_append : (i j k : ℕ) (es fs : List Entry) → ComeInOrder i j es → ComeInOrder j k fs → ComeInOrder i k (es ++ fs)
rising_append i j k [] fs h l = rising_lower i j k fs h l
rising_append i j k (e ∷ es) fs h l = (h.0, rising_append (suc e.place.index) j k es fs h.1 l)

pub rising_none : (from to : ℕ) (a : Option (List Entry)) → from ≤ to → TellsRising from to a a
rising_none from to None h = tt
rising_none from to (Some es) h = ([], ap Some (sym (append-nil es)), h)

pub rising_one : (from to : ℕ) (a b : Option (List Entry)) (e : Entry) → HasOneMore a b e → from ≤ e.place.index → suc e.place.index ≤ to → TellsRising from to a b
rising_one from to None b e h k l = tt
rising_one from to (Some es) b e h k l = (e ∷ [], h, (k, l))

pub rising_then : (i j k : ℕ) (a b c : Option (List Entry)) → TellsRising i j a b → TellsRising j k b c → TellsRising i k a c
rising_then i j k None b c h l = tt
rising_then i j k (Some es) b c h l =
    let next = subst (λ x. TellsRising j k x c) h.1 l in
    (h.0 ++ next.0, next.1 ∙ ap Some (append_assoc es h.0 next.0), rising_append i j k h.0 next.0 h.2 next.2)

-- an error that is handed on
pub rises_err : {T E : Type 0} (r : Result T E) (e : E) (from to n : ℕ) (a b : Option (List Entry)) → IsErrAnd r (λ x. x ≡ e) → TellsRising from n a b → RisesTo r from to a b
rises_err (Ok x) e from to n a b same h = absurd same
rises_err (Err x) e from to n a b same h = (n, h)
