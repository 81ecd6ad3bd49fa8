-- The longest prefix with a property.
use Rattle.std.specs.Prelude.{ℕ, ◌<◌, ◌≤◌, List, length, take}

-- the first n elements of a list have a property, and no longer prefix of the list has it
pub record IsLongestPrefix (WellFormed : List ℕ → Type 0) (xs : List ℕ) (n : ℕ) : Type 0 where
  pub within : n ≤ length xs
  pub well_formed : WellFormed (take n xs)
  pub longest : (m : ℕ) → n < m → m ≤ length xs → ¬ (WellFormed (take m xs))
