-- Worked rows of `specs/IndexLine.antt`.
use Rattle.std.specs.Prelude.{◌≡◌, true, [], ◌∷◌, Some, None, codes, refl, map, replicate, false}
use Rattle.encoding_index.specs.IndexLine.{is_skipped, row_in, is_decimal_digit, is_hex_digit}

plain_row : row_in (codes "0\t0x0080") ≡ Some (0, 0x80)
unfolding row_in
plain_row = refl

row_with_a_name : row_in (codes "  127\t0x00FF\tx") ≡ Some (127, 0xFF)
unfolding row_in
row_with_a_name = refl

longest_row : row_in (codes "1237575\t0x10FFFF") ≡ Some (1237575, 0x10FFFF)
unfolding row_in
longest_row = refl

too_few_digits : row_in (codes "0\t0x80") ≡ None
unfolding row_in
too_few_digits = refl

too_many_digits : row_in (codes "00000001\t0x0080") ≡ None
unfolding row_in
too_many_digits = refl

lower_case : row_in (codes "0\t0x00ff") ≡ None
unfolding row_in
lower_case = refl

code_point_zero : row_in (codes "0\t0x0000") ≡ None
unfolding row_in
code_point_zero = refl

carriage_return : row_in (codes "0\t0x0080\r") ≡ None
unfolding row_in
carriage_return = refl

carriage_return_behind_a_tab : row_in (codes "0\t0x0080\t\r") ≡ Some (0, 0x80)
unfolding row_in
carriage_return_behind_a_tab = refl

tab_in_prefix : row_in (codes "\t0\t0x0080") ≡ None
unfolding row_in
tab_in_prefix = refl

blank_line : is_skipped (codes " \t ") ≡ true
unfolding is_skipped
blank_line = refl

-- 0 to 9 are decimal digits, and no other ASCII character beside them
digit_ends : map is_decimal_digit (codes "/09:") ≡ false ∷ true ∷ true ∷ false ∷ []
digit_ends = refl

-- 0 to 9 and A to F are hexadecimal digits; a to f are not
hex_digit_ends : map is_hex_digit (codes "/09:@AFGaf") ≡ false ∷ true ∷ true ∷ false ∷ false ∷ true ∷ true ∷ false ∷ false ∷ false ∷ []
hex_digit_ends = refl

all_digits : map row_in (codes "0123456\t0x0789" ∷ codes "789\t0xABCDEF" ∷ []) ≡ Some (123456, 0x789) ∷ Some (789, 0xABCDEF) ∷ []
unfolding row_in
all_digits = refl

no_digits : map row_in (codes "/\t0x0080" ∷ codes ":\t0x0080" ∷ codes "0\t0x008/" ∷ codes "0\t0x008:" ∷ codes "0\t0x008@" ∷ codes "0\t0x008G" ∷ codes "0\t0x008a" ∷ codes "A\t0x0080" ∷ [])
    ≡ replicate 8 None
unfolding row_in
no_digits = refl

-- 1 to 7 decimal digits and 4 to 6 hexadecimal ones
counts_of_digits : map row_in (codes "\t0x0080" ∷ codes "0000007\t0x0080" ∷ codes "00000007\t0x0080" ∷ codes "7\t0x080" ∷ codes "7\t0x000080" ∷ codes "7\t0x0000080" ∷ [])
    ≡ None ∷ Some (7, 0x80) ∷ None ∷ None ∷ Some (7, 0x80) ∷ None ∷ []
unfolding row_in
counts_of_digits = refl

-- spaces before the pointer alone, one tab and `0x` before the code point, and a tab after it
separators : map row_in (codes " 0 \t0x0080" ∷ codes "0\t\t0x0080" ∷ codes "0 0x0080" ∷ codes "0\t0X0080" ∷ codes "0\t0080" ∷ codes "0\t0x0080 " ∷ [])
    ≡ replicate 6 None
unfolding row_in
separators = refl

-- a comment begins the line; spaces and tabs alone are skipped, as is an empty line
skipped : map is_skipped (codes "#0\t0x0080" ∷ [] ∷ codes "\t" ∷ codes " #" ∷ codes "\"" ∷ codes "$" ∷ codes " \t!" ∷ codes "\u{b}" ∷ codes "\u{8}" ∷ [])
    ≡ true ∷ true ∷ true ∷ false ∷ false ∷ false ∷ false ∷ false ∷ false ∷ []
unfolding is_skipped
skipped = refl
