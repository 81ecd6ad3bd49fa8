-- A loop over a text has passed a prefix of it.
use Rattle.std.proofs.Common.{◌≡◌, ℕ, suc, ◌<◌, List, [], ◌∷◌, ◌++◌, length, take, drop, get_or, sym, ◌∙◌, ap, map, map-id}
use Rattle.std.proofs.Math.Seq.{take-suc}
use Rattle.std.proofs.lemmas.List.{take-append-drop}

-- the characters that were passed, the next one, and the rest
pub passed_prefix : (all xs : List ℕ) (c : ℕ) → map (λ x. x) xs ≡ take (length xs) all → (length xs < length all) × (c ≡ get_or all (length xs) c)
    → (rest : List ℕ) × (all ≡ (xs ++ (c ∷ [])) ++ rest)
passed_prefix all xs c so_far turn =
    let passed : take (suc (length xs)) all ≡ xs ++ (c ∷ []) =
    take-suc all (length xs) c turn.0 ∙ ap (λ x. x ++ (get_or all (length xs) c ∷ [])) (sym so_far ∙ map-id xs) ∙ ap (λ d. xs ++ (d ∷ [])) (sym turn.1) in
    (drop (suc (length xs)) all, sym (take-append-drop (suc (length xs)) all) ∙ ap (λ x. x ++ drop (suc (length xs)) all) passed)
