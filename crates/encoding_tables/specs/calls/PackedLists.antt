-- What a packed index keeps: its rows by pointer, and the same rows by entry.
use Rattle.std.specs.Prelude.{◌≡◌, ◌≢◌, ℕ, ◌<◌, List, length, Option, None, Some}
use Rattle.encoding_tables.specs.calls.SortedRows.{row_at, AreRising}
use Rattle.encoding_tables.specs.PackedRows.{PointersRise, PointersAreBelow, swapped}

-- a row stands somewhere among some rows
abbrev pub HasRow : List (ℕ × ℕ) → ℕ × ℕ → Type 0
HasRow rows row = (k : ℕ) × (k < length rows) × (row_at rows k ≡ row)

-- some row has two given numbers, or, if no second one is given, no row has the first
abbrev pub IsSecond : List (ℕ × ℕ) → ℕ → Option ℕ → Type 0
IsSecond rows first None = (k : ℕ) → k < length rows → (row_at rows k).0 ≢ first
IsSecond rows first (Some second) = HasRow rows (first, second)

-- rows are those of an index: their pointers rise and are below the size, and no entry is 0
pub record AreIndexRows (size : ℕ) (rows : List (ℕ × ℕ)) : Type 0 where
  pub rise : PointersRise rows
  pub below : PointersAreBelow size rows
  pub mapped : (k : ℕ) → k < length rows → (row_at rows k).1 ≢ 0

-- pairs are the rows with their numbers the other way round, all of them and no others, rising
pub record IsReversed (rows pairs : List (ℕ × ℕ)) : Type 0 where
  pub rise : AreRising pairs
  pub all : (k : ℕ) → k < length rows → HasRow pairs (swapped (row_at rows k))
  pub only : (k : ℕ) → k < length pairs → HasRow rows (swapped (row_at pairs k))
  pub same : length pairs ≡ length rows

-- rows are an index's, by pointer (`AreIndexRows`), and pairs are the rows by entry (`IsReversed`)
pub record IsPacked (size : ℕ) (rows pairs : List (ℕ × ℕ)) : Type 0 where
  pub index : AreIndexRows size rows
  pub reverse : IsReversed rows pairs
