-- Worked rows of `specs/RangeFaults.antt`.
use Rattle.std.proofs.Common.{refl}
use Rattle.std.specs.Prelude.{◌≡◌, [], ◌∷◌, None, Some}
use Rattle.encoding_tables.specs.RangeFaults.{bad_row}

too_close : bad_row ((0, 0x80) ∷ (36, 0x80) ∷ []) ≡ Some 1
too_close = refl

no_value_to_clash : bad_row ((39420, 0x80) ∷ (189000, 0x10000) ∷ []) ≡ None
no_value_to_clash = refl

too_far : bad_row ((7457, 0x1E3F) ∷ (7458, 0x1E40) ∷ []) ≡ Some 1
too_far = refl

in_two_parts : bad_row ((7457, 0x1E3F) ∷ (7458, 0x1E40) ∷ (39420, 0x80) ∷ (189000, 0x10000) ∷ []) ≡ None
in_two_parts = refl

low : bad_row ((0, 0x7F) ∷ []) ≡ Some 0
low = refl

past_the_end : bad_row ((189000, 0x10001) ∷ []) ≡ Some 0
past_the_end = refl

surrogate : bad_row ((0, 0xD7FF) ∷ (2, 0xE000) ∷ []) ≡ Some 0
surrogate = refl

same_pointer : bad_row ((5, 0x80) ∷ (5, 0x90) ∷ []) ≡ Some 1
same_pointer = refl

order_comes_first : bad_row ((0, 0x7F) ∷ (1237576, 0x80) ∷ []) ≡ Some 1
order_comes_first = refl

none : bad_row [] ≡ None
none = refl

-- U+0080 is the least value; the last pointer is 1237575
least_value : bad_row ((0, 0x80) ∷ (189000, 0x10000) ∷ []) ≡ None
least_value = refl

last_pointer : bad_row ((1237575, 0x10FFFF) ∷ []) ≡ None
last_pointer = refl

-- the first and the last surrogate, and the scalar values beside them, at the last pointer of two bytes
before_surrogates : bad_row ((39419, 0xD7FF) ∷ (189000, 0x10000) ∷ []) ≡ None
before_surrogates = refl

first_surrogate : bad_row ((39419, 0xD800) ∷ (189000, 0x10000) ∷ []) ≡ Some 0
first_surrogate = refl

last_surrogate : bad_row ((39419, 0xDFFF) ∷ (189000, 0x10000) ∷ []) ≡ Some 0
last_surrogate = refl

behind_surrogates : bad_row ((39419, 0xE000) ∷ (189000, 0x10000) ∷ []) ≡ None
behind_surrogates = refl

-- what a row gives at 39420 to 188999 does not count; at 39419 and at 189000 it does
not_from_39420 : bad_row ((39420, 0x7F) ∷ (189000, 0x10000) ∷ []) ≡ None
not_from_39420 = refl

not_to_188999 : bad_row ((188999, 0x7F) ∷ (189000, 0x10000) ∷ []) ≡ None
not_to_188999 = refl

at_39419 : bad_row ((39419, 0x7F) ∷ (189000, 0x10000) ∷ []) ≡ Some 0
at_39419 = refl

at_189000 : bad_row ((189000, 0x7F) ∷ (189001, 0x10000) ∷ []) ≡ Some 0
at_189000 = refl

-- what a row gives at 7457 does count: U+1E3F is there and at 7458
at_7457 : bad_row ((7457, 0x1E3F) ∷ (7458, 0x1E3F) ∷ (39420, 0x80) ∷ (189000, 0x10000) ∷ []) ≡ Some 1
at_7457 = refl

-- values rise over both parts: U+FFFF again at 189000
over_both_parts : bad_row ((39419, 0xFFFF) ∷ (189000, 0xFFFF) ∷ []) ≡ Some 1
over_both_parts = refl

-- a pointer may not stand twice, though the values of the second row rise
pointer_twice : bad_row ((5, 0x80) ∷ (5, 0x90) ∷ (39420, 0x80) ∷ (189000, 0x10000) ∷ []) ≡ Some 1
pointer_twice = refl

next_pointer : bad_row ((5, 0x80) ∷ (6, 0x90) ∷ (39420, 0x80) ∷ (189000, 0x10000) ∷ []) ≡ None
next_pointer = refl
