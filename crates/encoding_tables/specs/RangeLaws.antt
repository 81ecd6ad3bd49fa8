-- What holds of all rows that are taken, those with no bad row.
use Rattle.std.specs.Prelude.{◌≡◌, ℕ, ◌<◌, ◌≤◌, ◌↔◌, true, List, None, Some}
use Rattle.std.specs.Char.{InScalarRange}
use Rattle.encoding_tables.specs.Ranges.{is_valid_pointer, row_value, row_pointer, range_value, range_pointer, HasRowValue}
use Rattle.encoding_tables.specs.RangeFaults.{bad_row}

-- the row value of a valid pointer is a scalar from U+0080
abbrev pub ValuesAreScalars : Type 0
ValuesAreScalars = (rows : List (ℕ × ℕ)) → bad_row rows ≡ None → (q v : ℕ) → is_valid_pointer q ≡ true → row_value rows q ≡ Some v → (0x80 ≤ v) × InScalarRange v

-- row values rise with their valid pointers
abbrev pub ValuesRise : Type 0
ValuesRise = (rows : List (ℕ × ℕ)) → bad_row rows ≡ None → (q s v w : ℕ) → is_valid_pointer q ≡ true → is_valid_pointer s ≡ true → q < s
    → row_value rows q ≡ Some v → row_value rows s ≡ Some w → v < w

-- a row's pointer is the one valid pointer other than 7457 with that row value
abbrev pub PointersAreExact : Type 0
PointersAreExact = (rows : List (ℕ × ℕ)) → bad_row rows ≡ None → (c q : ℕ) → (row_pointer c rows ≡ Some q) ↔ HasRowValue rows q c

-- a range pointer has the value that it stands for
abbrev pub PointersReadBack : Type 0
PointersReadBack = (rows : List (ℕ × ℕ)) → bad_row rows ≡ None → (c q : ℕ) → range_pointer rows c ≡ Some q → range_value rows q ≡ Some c
