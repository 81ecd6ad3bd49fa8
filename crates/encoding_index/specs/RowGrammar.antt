-- How a row is written: the grammar of rows, against `row_in`.
use Rattle.std.specs.Prelude.{◌≡◌, ◌⊎◌, ◌↔◌, ℕ, ◌<◌, ◌≤◌, List, [], ◌∷◌, ◌++◌, length, replicate, Some, codes}
use Rattle.std.specs.List.{AllPass}
use Rattle.std.specs.Str.Parse.{digits_value}
use Rattle.encoding_index.specs.IndexLine.{is_decimal_digit, is_hex_digit, row_in}

-- The line is a row of an index text: any number of spaces, 1 to 7 decimal digits that write the
-- pointer, a tab, `0x`, 4 to 6 hexadecimal digits that write the code point, which is not 0, and
-- the line's end, or a tab and any bytes.
pub record IsIndexRow (line : List ℕ) (pointer code : ℕ) : Type 0 where
  pub spaces : ℕ
  pub digits : List ℕ
  pub hex_digits : List ℕ
  pub end : List ℕ
  pub written : line ≡ replicate spaces 0x20 ++ (digits ++ (codes "\t0x" ++ (hex_digits ++ end)))
  pub decimal : AllPass is_decimal_digit digits
  pub at_least_one : 1 ≤ length digits
  pub at_most_seven : length digits ≤ 7
  pub hexadecimal : AllPass is_hex_digit hex_digits
  pub at_least_four : 4 ≤ length hex_digits
  pub at_most_six : length hex_digits ≤ 6
  pub ended : (end ≡ []) ⊎ ((rest : List ℕ) × (end ≡ 0x09 ∷ rest))
  pub pointer_is : digits_value 10 digits ≡ pointer
  pub code_is : digits_value 16 hex_digits ≡ code
  pub positive : 0 < code

-- `row_in` gives a line's pointer and code point exactly when the line is written as the row of
-- that pointer and that code point (`IsIndexRow`)
abbrev pub RowsAreWritten : Type 0
RowsAreWritten = (line : List ℕ) (pointer code : ℕ) → (row_in line ≡ Some (pointer, code)) ↔ IsIndexRow line pointer code
