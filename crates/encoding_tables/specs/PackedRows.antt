-- Rows of a pointer and an entry, and the list that they stand for (the Encoding Standard, section 5, "Indexes").
use Rattle.std.specs.Prelude.{ℕ, ◌+◌, ◌<◌, List, [], ◌∷◌, length, map, ◌==◌, not, if◌then◌else◌}
use Rattle.std.specs.List.{filter, range_with_len}
use Rattle.encoding_tables.specs.calls.SortedRows.{row_at}

-- the entry of the first row with a given pointer, or 0 if no row has it
abbrev pub packed_entry : List (ℕ × ℕ) → ℕ → ℕ
packed_entry [] pointer = 0
packed_entry (row ∷ rows) pointer = if row.0 == pointer then row.1 else packed_entry rows pointer

-- the list of an index by its rows: for each pointer below `size` its entry, or 0 if no row has it
abbrev pub flat_list : ℕ → List (ℕ × ℕ) → List ℕ
flat_list size rows = map (packed_entry rows) (range_with_len 0 size)

-- each row's pointer is below that of the next row
abbrev pub PointersRise : List (ℕ × ℕ) → Type 0
PointersRise rows = (k : ℕ) → k + 1 < length rows → (row_at rows k).0 < (row_at rows (k + 1)).0

-- each row's pointer is below `size`
abbrev pub PointersAreBelow : ℕ → List (ℕ × ℕ) → Type 0
PointersAreBelow size rows = (k : ℕ) → k < length rows → (row_at rows k).0 < size

-- those of some rows whose entry is not 0
abbrev pub mapped_rows : List (ℕ × ℕ) → List (ℕ × ℕ)
mapped_rows rows = filter (λ row. not (row.1 == 0)) rows

-- the rows of a list whose first entry is at a given pointer: each pointer with its entry, if that
-- is not 0
abbrev pub listed_rows : ℕ → List ℕ → List (ℕ × ℕ)
listed_rows pointer [] = []
listed_rows pointer (v ∷ vs) = if v == 0 then listed_rows (pointer + 1) vs else (pointer, v) ∷ listed_rows (pointer + 1) vs

-- a row with its two numbers the other way round
abbrev pub swapped : ℕ × ℕ → ℕ × ℕ
swapped row = (row.1, row.0)
