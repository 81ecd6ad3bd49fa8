-- Worked rows of `specs/Ranges.antt`.
use Rattle.std.proofs.Common.{ℕ, refl, arith}
use Rattle.std.specs.Prelude.{◌≡◌, true, false, [], ◌∷◌, map, None, Some}
use Rattle.encoding_tables.specs.Ranges.{is_valid_pointer, range_value, range_pointer, HasRowValue, end_by}

one : range_value ((0, 0x80) ∷ []) 7456 ≡ Some 0x1DA0
one = refl

gap : range_value ((0, 0x80) ∷ []) 39420 ≡ None
gap = refl

before_the_rows : range_value ((1, 0x80) ∷ []) 0 ≡ None
before_the_rows = refl

past_the_last : range_value ((189000, 0x10000) ∷ []) 1237576 ≡ None
past_the_last = refl

fixed : range_value [] 7457 ≡ Some 0xE7C7
fixed = refl

second : range_value ((0, 0x80) ∷ (189000, 0x10000) ∷ []) 1237575 ≡ Some 0x10FFFF
second = refl

fixed_pointer : range_pointer [] 0xE7C7 ≡ Some 7457
fixed_pointer = refl

no_pointer : range_pointer ((7457, 0x1E3F) ∷ (7458, 0x1E40) ∷ (39420, 0x80) ∷ (189000, 0x10000) ∷ []) 0x1E3F ≡ None
no_pointer = refl

next_pointer : range_pointer ((7457, 0x1E3F) ∷ (7458, 0x1E40) ∷ (39420, 0x80) ∷ (189000, 0x10000) ∷ []) 0x1E40 ≡ Some 7458
next_pointer = refl

-- the pointers that may have a value are 0 to 39419 and 189000 to 1237575
ends_of_valid_pointers : map is_valid_pointer (0 ∷ 39419 ∷ 39420 ∷ 188999 ∷ 189000 ∷ 1237575 ∷ 1237576 ∷ [])
    ≡ true ∷ true ∷ false ∷ false ∷ true ∷ true ∷ false ∷ []
ends_of_valid_pointers = refl

-- their values by one row: 39419 + 80 is 9A7B
last_of_two_bytes : range_value ((0, 0x80) ∷ []) 39419 ≡ Some 0x9A7B
last_of_two_bytes = refl

before_the_planes : range_value ((0, 0x80) ∷ []) 188999 ≡ None
before_the_planes = refl

first_of_the_planes : range_value ((0, 0x80) ∷ (189000, 0x10000) ∷ []) 189000 ≡ Some 0x10000
first_of_the_planes = refl

-- the first rows of the standard: 35 is the last pointer of the first row, 36 the first of the second
last_of_a_row : range_value ((0, 0x80) ∷ (36, 0xA5) ∷ (38, 0xA9) ∷ []) 35 ≡ Some 0xA3
last_of_a_row = refl

first_of_a_row : range_value ((0, 0x80) ∷ (36, 0xA5) ∷ (38, 0xA9) ∷ []) 36 ≡ Some 0xA5
first_of_a_row = refl

inside_a_row : range_value ((0, 0x80) ∷ (36, 0xA5) ∷ (38, 0xA9) ∷ []) 37 ≡ Some 0xA6
inside_a_row = refl

-- 7457 has its own value whatever the rows say, its neighbours do not
fixed_in_a_row : range_value ((0, 0x80) ∷ []) 7457 ≡ Some 0xE7C7
fixed_in_a_row = refl

behind_the_fixed : range_value ((0, 0x80) ∷ []) 7458 ≡ Some 0x1DA2
behind_the_fixed = refl

-- back: the ends of a row, and the characters beside its values
first_pointer_of_a_row : range_pointer ((0, 0x80) ∷ (36, 0xA5) ∷ []) 0x80 ≡ Some 0
first_pointer_of_a_row = refl

last_pointer_of_a_row : range_pointer ((0, 0x80) ∷ (36, 0xA5) ∷ []) 0xA3 ≡ Some 35
last_pointer_of_a_row = refl

between_two_rows : range_pointer ((0, 0x80) ∷ (36, 0xA5) ∷ []) 0xA4 ≡ None
between_two_rows = refl

pointer_of_the_next_row : range_pointer ((0, 0x80) ∷ (36, 0xA5) ∷ []) 0xA5 ≡ Some 36
pointer_of_the_next_row = refl

below_the_rows : range_pointer ((0, 0x80) ∷ []) 0x7F ≡ None
below_the_rows = refl

-- 9A7B is at 39419; 39420, at which 9A7C would be, may have no value
pointer_of_two_bytes : range_pointer ((0, 0x80) ∷ []) 0x9A7B ≡ Some 39419
pointer_of_two_bytes = refl

no_pointer_above : range_pointer ((0, 0x80) ∷ []) 0x9A7C ≡ None
no_pointer_above = refl

-- nor may 188999, where U+FFFF would be
no_pointer_below_the_planes : range_pointer ((188999, 0xFFFF) ∷ []) 0xFFFF ≡ None
no_pointer_below_the_planes = refl

first_pointer_of_the_planes : range_pointer ((188999, 0xFFFF) ∷ []) 0x10000 ≡ Some 189000
first_pointer_of_the_planes = refl

last_pointer_of_the_planes : range_pointer ((189000, 0x10000) ∷ []) 0x10FFFF ≡ Some 1237575
last_pointer_of_the_planes = refl

-- the value that the row gives at 7457, U+1DA1, is not written, its neighbours are
before_the_fixed_pointer : range_pointer ((0, 0x80) ∷ []) 0x1DA0 ≡ Some 7456
before_the_fixed_pointer = refl

at_the_fixed_pointer : range_pointer ((0, 0x80) ∷ []) 0x1DA1 ≡ None
at_the_fixed_pointer = refl

behind_the_fixed_pointer : range_pointer ((0, 0x80) ∷ []) 0x1DA2 ≡ Some 7458
behind_the_fixed_pointer = refl

-- U+E7C7 is 7457 even if a row gives it to another pointer
fixed_pointer_first : range_pointer ((0, 0xE7C7) ∷ []) 0xE7C7 ≡ Some 7457
fixed_pointer_first = refl

-- after the last row the pointers end
end_of_pointers : end_by [] ≡ 1237576
end_of_pointers = refl

-- beside 7457 a row gives its values
before_7457 : HasRowValue ((0, 0x80) ∷ []) 7456 0x1DA0
before_7457 = record { valid = refl; other = λ e. absurd (omega (arith, e)); gives = refl }

at_7457 : (c : ℕ) → ¬ (HasRowValue ((0, 0x80) ∷ []) 7457 c)
at_7457 c row = row.other refl

behind_7457 : HasRowValue ((0, 0x80) ∷ []) 7458 0x1DA2
behind_7457 = record { valid = refl; other = λ e. absurd (omega (arith, e)); gives = refl }
