-- How many rows of an index have each entry, and where the rows of each entry stand when all are put in order by it.
use Rattle.std.specs.Prelude.{◌≡◌, ℕ, zero, suc, ◌+◌, ◌<◌, List, [], ◌++◌, length, map, slice_index, ◌==◌}
use Rattle.std.specs.List.{filter}
use Rattle.encoding_tables.specs.PackedRows.{swapped}
use Rattle.encoding_tables.specs.calls.SortedRows.{row_at}

-- the entry of each row is below a limit
abbrev pub HaveEntriesBelow : ℕ → List (ℕ × ℕ) → Type 0
HaveEntriesBelow limit rows = (k : ℕ) → k < length rows → (row_at rows k).1 < limit

-- the rows with a given entry, in their order, each with the entry first and the pointer second
abbrev pub rows_of_entry : ℕ → List (ℕ × ℕ) → List (ℕ × ℕ)
rows_of_entry entry rows = filter (λ pair. pair.0 == entry) (map swapped rows)

-- the rows with an entry below a given number, entry first, in the order of the entries and, for
-- each entry, of the rows
abbrev pub pairs_below : ℕ → List (ℕ × ℕ) → List (ℕ × ℕ)
pairs_below zero rows = []
pairs_below (suc entry) rows = pairs_below entry rows ++ rows_of_entry entry rows

-- a list has a number at each row's entry, and at least one more after it
abbrev pub HaveNumbers : List (ℕ × ℕ) → List ℕ → Type 0
HaveNumbers rows numbers = (k : ℕ) → k < length rows → (row_at rows k).1 + 1 < length numbers

-- a list says at each number how many rows have it as their entry, and goes beyond all entries
pub record AreCounts (rows : List (ℕ × ℕ)) (counts : List ℕ) : Type 0 where
  pub entries : HaveNumbers rows counts
  pub counted : (entry : ℕ) → entry < length counts → slice_index counts entry ≡ length (rows_of_entry entry rows)

-- a list says at each number how many rows have an entry up to it, and goes beyond all entries
pub record AreEnds (rows : List (ℕ × ℕ)) (ends : List ℕ) : Type 0 where
  pub entries : HaveNumbers rows ends
  pub added : (entry : ℕ) → entry < length ends → slice_index ends entry ≡ length (pairs_below (suc entry) rows)
