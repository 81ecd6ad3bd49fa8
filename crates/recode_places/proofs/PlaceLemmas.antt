-- A text that goes on by one character.
use Rattle.std.proofs.Common.{arith, ◌≡◌, ℕ, suc, ◌+◌, ◌==◌, if◌then◌else◌, List, [], ◌∷◌, ◌++◌}
use Rattle.std.proofs.lemmas.List.{length-append}
use Rattle.recode_places.specs.Places.{feed, feeds, after_feed}

pub feeds-next : (t : List ℕ) (c : ℕ) → feeds (t ++ (c ∷ [])) ≡ feeds t + feed c
feeds-next [] c = omega arith
feeds-next (b ∷ t) c = omega (arith, feeds-next t c)

pub after-next : (t : List ℕ) (c : ℕ) → after_feed (t ++ (c ∷ [])) ≡ (if c == 10 then 0 else suc (after_feed t))
after-next [] c = grind arith
after-next (b ∷ t) c = grind (arith, after-next t c, feeds-next t c, length-append t (c ∷ []))
