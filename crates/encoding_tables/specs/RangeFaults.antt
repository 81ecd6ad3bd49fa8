-- Which rows are taken as ranges, and which row is named in the others.
use Rattle.std.specs.Prelude.{ℕ, ◌+◌, ◌-◌, Bool, List, [], ◌∷◌, nat_lt, not, ◌||◌, ◌&&◌, if◌then◌else◌, min, max, Option, None, Some}
use Rattle.std.specs.Option.{option_or, option_and_then}
use Rattle.encoding_tables.specs.Ranges.{end_by}

-- the number, counted from `row`, of the first row whose pointer is below `from`, not above the
-- row before's, or above 1237575
abbrev pub first_out_of_order : ℕ → ℕ → List (ℕ × ℕ) → Option ℕ
first_out_of_order row from [] = None
first_out_of_order row from (r ∷ rows) = if nat_lt r.0 from || nat_lt 1237575 r.0 then Some row else first_out_of_order (row + 1) (r.0 + 1) rows

-- whether the numbers from `first` to below `end`, of which there are some, are scalars from
-- `least` on
abbrev pub are_scalars : ℕ → ℕ → ℕ → Bool
are_scalars least first end = not (nat_lt first least) && (not (nat_lt 0xD800 end) || (not (nat_lt first 0xE000) && not (nat_lt 0x110000 end)))

-- one above the values of a row from the pointer `from` to below `to`, or `least` if there are
-- none; no number if a value is no scalar from `least` on
abbrev pub above_values : ℕ × ℕ → ℕ → ℕ → ℕ → Option ℕ
above_values r from to least = if not (nat_lt from to) then Some least
    else if are_scalars least (r.1 + (from - r.0)) (r.1 + (to - r.0)) then Some (r.1 + (to - r.0)) else None

-- one above the values of a row at the valid pointers from its own to below `end` (1237576 at
-- most), or `least` if there are none; no number if a value is no scalar from `least` on
abbrev pub above_row : ℕ × ℕ → ℕ → ℕ → Option ℕ
above_row r end least = option_and_then (above_values r (max r.0 189000) end) (above_values r r.0 (min end 39420) least)

-- the number, counted from `row`, of the first row with a value that is no scalar from `least` on,
-- or not above those of the rows before
abbrev pub first_bad_value : ℕ → ℕ → List (ℕ × ℕ) → Option ℕ
first_bad_value row least [] = None
first_bad_value row least (r ∷ rows) = elim (above_row r (end_by rows) least) [ None ↦ Some row | Some above ↦ first_bad_value (row + 1) above rows ]

-- the number of the row for which rows are no gb18030 ranges: the first out of order, or, if none
-- is, the first with a value that is no scalar from U+0080 on or not above earlier ones
abbrev pub bad_row : List (ℕ × ℕ) → Option ℕ
bad_row rows = option_or (first_out_of_order 0 0 rows) (first_bad_value 0 0x80 rows)
