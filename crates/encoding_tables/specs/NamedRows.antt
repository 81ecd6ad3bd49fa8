-- The row that is named if rows are not taken, in the words of the rule.
use Rattle.std.specs.Prelude.{◌≡◌, ℕ, ◌+◌, ◌<◌, ◌≤◌, ◌⊎◌, zero, suc, true, List, [], ◌∷◌, MatchOption}
use Rattle.std.specs.Char.{InScalarRange}
use Rattle.encoding_tables.specs.Ranges.{is_valid_pointer, value_in, end_by}
use Rattle.encoding_tables.specs.RangeFaults.{bad_row}

-- row k has a pointer above 1237575, or not above the row before's, or, if k is 0, below `from`
abbrev pub IsOutOfOrder : ℕ → List (ℕ × ℕ) → ℕ → Type 0
IsOutOfOrder from [] k = ⊥
IsOutOfOrder from (r ∷ rows) zero = (r.0 < from) ⊎ (1237575 < r.0)
IsOutOfOrder from (r ∷ rows) (suc k) = IsOutOfOrder (r.0 + 1) rows k

-- a row gives v to q, a valid pointer that is not below the row's own and is below `end`
pub record IsValue (r : ℕ × ℕ) (end q v : ℕ) : Type 0 where
  pub valid : is_valid_pointer q ≡ true
  pub from : r.0 ≤ q
  pub before : q < end
  pub value : value_in q r ≡ v

-- row k gives the value v to q, a valid pointer from the row's own to before the next row's
abbrev pub Gives : List (ℕ × ℕ) → ℕ → ℕ → ℕ → Type 0
Gives [] k q v = ⊥
Gives (r ∷ rows) zero q v = IsValue r (end_by rows) q v
Gives (r ∷ rows) (suc k) q v = Gives rows k q v

-- v is a scalar that is not below `least`
pub record IsScalarFrom (least v : ℕ) : Type 0 where
  pub high : least ≤ v
  pub scalar : InScalarRange v

-- a row before row k gives a valid pointer a value that is not below v
pub record IsReached (rows : List (ℕ × ℕ)) (k v : ℕ) : Type 0 where
  pub row : ℕ
  pub pointer : ℕ
  pub value : ℕ
  pub earlier : row < k
  pub gives : Gives rows row pointer value
  pub above : v ≤ value

-- row k gives a valid pointer a value that is no scalar from `least` on, or not above all values
-- of earlier rows
pub record HasBadValue (least : ℕ) (rows : List (ℕ × ℕ)) (k : ℕ) : Type 0 where
  pub pointer : ℕ
  pub value : ℕ
  pub gives : Gives rows k pointer value
  pub bad : (¬ (IsScalarFrom least value)) ⊎ IsReached rows k value

-- k is the least number that has the property P
abbrev pub IsLeastWith : (ℕ → Type 0) → ℕ → Type 0
IsLeastWith P k = P k × ((j : ℕ) → j < k → ¬ (P j))

-- row k is the first out of order (`IsOutOfOrder`), or, if none is, the first with a value that is
-- no scalar from U+0080 on or not above all values of earlier rows (`HasBadValue`)
abbrev pub IsNamed : List (ℕ × ℕ) → ℕ → Type 0
IsNamed rows k = IsLeastWith (IsOutOfOrder 0 rows) k ⊎ (((j : ℕ) → ¬ (IsOutOfOrder 0 rows j)) × IsLeastWith (HasBadValue 0x80 rows) k)

-- `bad_row` finds the row of which `IsNamed` holds, and none if it holds of no row
abbrev pub NamesAreExact : Type 0
NamesAreExact = (rows : List (ℕ × ℕ)) → MatchOption (bad_row rows) ((k : ℕ) → ¬ (IsNamed rows k)) (IsNamed rows)
