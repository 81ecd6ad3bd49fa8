use Rattle.std.proofs.Common.{◌≡◌, ◌∙◌, ap, List, [], ◌∷◌, ℕ, Bor, map, codes, refl, drop}
use Rattle.std.proofs.lemmas.List.{take_rest}
use Rattle.std.specs.List.{list_any}
use Rattle.std.specs.Str.{bytes_eq}
use Rattle.recode_words.specs.Request.{asks_list}
use Rattle.recode_words.proofs.request.has_list.Goals as goal

list_any-map : (xs : List (Bor (List ℕ))) → list_any (λ y. bytes_eq y.now (codes "--list")) xs ≡ list_any (λ w. bytes_eq w (codes "--list")) (map (λ s. s.now) xs)
list_any-map [] = refl
list_any-map (x ∷ xs) = rw (list_any-map xs) refl

behind_first : (xs : List (Bor (List ℕ))) → list_any (λ y. bytes_eq y.now (codes "--list")) (drop 1 xs) ≡ asks_list (map (λ s. s.now) xs)
behind_first [] = refl
behind_first (x ∷ xs) = list_any-map xs

pub returns : goal.returns
returns c =
    c.contains.ensures.value
    ∙ (ap (list_any (λ y. bytes_eq y.now (codes "--list"))) (take_rest c.args.words.now 1) ∙ behind_first c.args.words.now)
