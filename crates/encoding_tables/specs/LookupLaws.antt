-- What the look-ups in a list find, in the words of the standard.
use Rattle.std.specs.Prelude.{◌≡◌, ℕ, ◌<◌, ◌≤◌, List, Some, MatchOption}
use Rattle.encoding_tables.specs.Lookups.{value_of, first_pointer, last_pointer}

-- p is a pointer with the character c, from `from` to below `to`
pub record IsPointer (flat : List ℕ) (c from to p : ℕ) : Type 0 where
  pub after : from ≤ p
  pub before : p < to
  pub entry : value_of flat p ≡ Some c

-- a pointer that is found is the least such, and else there is none
abbrev pub FirstIsLeast : Type 0
FirstIsLeast = (flat : List ℕ) (c from to : ℕ) → MatchOption (first_pointer flat c from to)
    ((p : ℕ) → ¬ (IsPointer flat c from to p))
    (λ p. IsPointer flat c from to p × ((q : ℕ) → IsPointer flat c from to q → p ≤ q))

-- a last pointer that is found is the greatest such, and else there is none
abbrev pub LastIsGreatest : Type 0
LastIsGreatest = (flat : List ℕ) (c from to : ℕ) → MatchOption (last_pointer flat c from to)
    ((p : ℕ) → ¬ (IsPointer flat c from to p))
    (λ p. IsPointer flat c from to p × ((q : ℕ) → IsPointer flat c from to q → q ≤ p))
