-- Rows of two numbers in order: by the first number, and by the second if the first are equal.
use Rattle.std.specs.Prelude.{◌≡◌, ℕ, ◌+◌, ◌^◌, ◌<◌, ◌≤◌, Bool, true, List, length, nat_lt, ◌==◌, ◌&&◌, ◌||◌, slice_index_or, slice_index}

-- the row at a position, or (0, 0) past the end
abbrev pub row_at : List (ℕ × ℕ) → ℕ → ℕ × ℕ
row_at rows k = slice_index_or rows k (0, 0)

-- whether a row is below a key: by the first numbers, by the second if the first are equal
abbrev pub is_below : ℕ × ℕ → ℕ × ℕ → Bool
is_below row key = nat_lt row.0 key.0 || (row.0 == key.0 && nat_lt row.1 key.1)

-- a row is below a key, by the first numbers, or by the second if the first are equal
abbrev pub IsBelow : ℕ × ℕ → ℕ × ℕ → Type 0
IsBelow row key = is_below row key ≡ true

-- each row is below the next, by the first numbers, or by the second if the first are equal
abbrev pub AreRising : List (ℕ × ℕ) → Type 0
AreRising rows = (k : ℕ) → k + 1 < length rows → IsBelow (row_at rows k) (row_at rows (k + 1))

-- no row is below the one before it, by the first numbers, or by the second if the first are equal
abbrev pub AreSorted : List (ℕ × ℕ) → Type 0
AreSorted rows = (k : ℕ) → k + 1 < length rows → ¬ (IsBelow (row_at rows (k + 1)) (row_at rows k))

-- `rank` rows are below the key: those before the position `rank`, and no others
pub record IsRank (rows : List (ℕ × ℕ)) (key : ℕ × ℕ) (rank : ℕ) : Type 0 where
  pub within : rank ≤ length rows
  pub below : (k : ℕ) → k < rank → IsBelow (row_at rows k) key
  pub others : (k : ℕ) → rank ≤ k → k < length rows → ¬ (IsBelow (row_at rows k) key)

-- a count is at most the number of binary digits of n
abbrev pub IsWithinDigits : ℕ → ℕ → Type 0
IsWithinDigits count n = (digits : ℕ) → n < 2 ^ digits → count ≤ digits

-- a list says at each number how many rows have a smaller first number, and goes beyond all first
-- numbers, so that its last entry is how many rows there are
pub record IsDirectory (rows : List (ℕ × ℕ)) (begins : List ℕ) : Type 0 where
  pub ranks : (first : ℕ) → first < length begins → IsRank rows (first, 0) (slice_index begins first)
  pub last : (k : ℕ) → k < length rows → (row_at rows k).0 + 1 < length begins

-- each entry of a directory but the last is a row's position, and it has at most 2^16 + 1 entries
pub record IsTight (rows : List (ℕ × ℕ)) (begins : List ℕ) : Type 0 where
  pub stands : (first : ℕ) → first + 1 < length begins → slice_index begins first < length rows
  pub short : length begins ≤ 2 ^ 16 + 1

-- the rows with a given first number stand from one position to before another
pub record IsSpan (rows : List (ℕ × ℕ)) (first from to : ℕ) : Type 0 where
  pub begins : IsRank rows (first, 0) from
  pub ends : IsRank rows (first + 1, 0) to
  pub ordered : from ≤ to
  pub inside : to ≤ length rows
