-- Worked rows of `specs/calls/DecodedLength.antt`.
use Rattle.std.specs.Prelude.{◌≡◌, true, false, Some, None, refl}
use Rattle.encoding_mem.specs.declared.codec.room.OutputUnit.TheVariants.{Units, Bytes, Replaced}
use Rattle.encoding_mem.specs.calls.DecodedLength.{cost_in, replacement_len, two_in, left_after, queried, decoded_length_utf8, decoded_length_single_byte, decoded_length_multibyte, decoded_length_utf16, decoded_length_replacement}

utf8_in_units : queried decoded_length_utf8 Units 5 ≡ Some 6
utf8_in_units = refl

utf8_in_bytes : queried decoded_length_utf8 Bytes 5 ≡ Some 8
utf8_in_bytes = refl

utf8_with_replacement : queried decoded_length_utf8 Replaced 5 ≡ Some 18
utf8_with_replacement = refl

single_byte_in_bytes : queried decoded_length_single_byte Bytes 4 ≡ Some 12
single_byte_in_bytes = refl

utf16_in_bytes : queried decoded_length_utf16 Bytes 3 ≡ Some 7
utf16_in_bytes = refl

utf16_in_units : queried decoded_length_utf16 Units 4 ≡ Some 3
utf16_in_units = refl

replacement_in_units : queried decoded_length_replacement Units 0xFFFFFFFFFFFFFFFF ≡ Some 1
replacement_in_units = refl

too_many : queried decoded_length_utf8 Units 0xFFFFFFFFFFFFFFFF ≡ None
too_many = refl

too_many_bytes : queried decoded_length_single_byte Bytes 0x5555555555555556 ≡ None
too_many_bytes = refl

-- q + 1 units would fit, but the sum that q is half of does not
too_many_pairs : queried decoded_length_utf16 Units 0xFFFFFFFFFFFFFFFF ≡ None
too_many_pairs = refl

-- what one character takes: one unit up to U+FFFF and two above, or 1 to 4 bytes
last_of_one_unit : cost_in true 0xFFFF ≡ 1
last_of_one_unit = refl

first_of_two_units : cost_in true 0x10000 ≡ 2
first_of_two_units = refl

last_of_three_bytes : cost_in false 0xFFFF ≡ 3
last_of_three_bytes = refl

first_of_four_bytes : cost_in false 0x10000 ≡ 4
first_of_four_bytes = refl

-- U+FFFD takes one unit, or three bytes
replacement_in_unit : replacement_len true ≡ 1
replacement_in_unit = refl

replacement_in_three_bytes : replacement_len false ≡ 3
replacement_in_three_bytes = refl

-- the longest character takes two units, or four bytes
longest_in_units : two_in true ≡ 2
longest_in_units = refl

longest_in_bytes : two_in false ≡ 4
longest_in_bytes = refl

-- room after a malformed sequence is needed too, unless it is reported to the caller, who calls
-- again
behind_replacement : left_after true 3 7 ≡ 10
behind_replacement = refl

behind_report : left_after false 3 7 ≡ 3
behind_report = refl

-- Seven bytes. The encodings with two bytes and more a character, but UTF-16: n + 1, 3n + 1, 3n + 1
multibyte_in_units : queried decoded_length_multibyte Units 7 ≡ Some 8
multibyte_in_units = refl

multibyte_in_bytes : queried decoded_length_multibyte Bytes 7 ≡ Some 22
multibyte_in_bytes = refl

multibyte_with_replacement : queried decoded_length_multibyte Replaced 7 ≡ Some 22
multibyte_with_replacement = refl

-- UTF-8: n + 1, n + 3, 3n + 3
utf8_in_units_of_seven : queried decoded_length_utf8 Units 7 ≡ Some 8
utf8_in_units_of_seven = refl

utf8_in_bytes_of_seven : queried decoded_length_utf8 Bytes 7 ≡ Some 10
utf8_in_bytes_of_seven = refl

utf8_with_replacement_of_seven : queried decoded_length_utf8 Replaced 7 ≡ Some 24
utf8_with_replacement_of_seven = refl

-- one byte a character: n, 3n, 3n
single_byte_in_units : queried decoded_length_single_byte Units 7 ≡ Some 7
single_byte_in_units = refl

single_byte_in_bytes_of_seven : queried decoded_length_single_byte Bytes 7 ≡ Some 21
single_byte_in_bytes_of_seven = refl

single_byte_with_replacement : queried decoded_length_single_byte Replaced 7 ≡ Some 21
single_byte_with_replacement = refl

-- UTF-16: q + 1, 3q + 1, 3q + 1, where q is half of n + 1, without a rest; four of seven bytes
utf16_in_units_of_seven : queried decoded_length_utf16 Units 7 ≡ Some 5
utf16_in_units_of_seven = refl

utf16_in_bytes_of_seven : queried decoded_length_utf16 Bytes 7 ≡ Some 13
utf16_in_bytes_of_seven = refl

utf16_with_replacement : queried decoded_length_utf16 Replaced 7 ≡ Some 13
utf16_with_replacement = refl

-- "replacement": 1, 3, 3, however many bytes
replacement_in_one_unit : queried decoded_length_replacement Units 7 ≡ Some 1
replacement_in_one_unit = refl

replacement_in_bytes : queried decoded_length_replacement Bytes 7 ≡ Some 3
replacement_in_bytes = refl

replacement_with_replacement : queried decoded_length_replacement Replaced 7 ≡ Some 3
replacement_with_replacement = refl

-- 3 * 5555555555555555 + 1 is 2 ^ 64, which passes a usize; with one byte less it does not
multibyte_passes : queried decoded_length_multibyte Bytes 0x5555555555555555 ≡ None
multibyte_passes = refl

multibyte_fits : queried decoded_length_multibyte Bytes 0x5555555555555554 ≡ Some 0xFFFFFFFFFFFFFFFD
multibyte_fits = refl

-- the greatest result
greatest : queried decoded_length_single_byte Units 0xFFFFFFFFFFFFFFFF ≡ Some 0xFFFFFFFFFFFFFFFF
greatest = refl

-- the most bytes of UTF-16 for which a number is returned
most_pairs : queried decoded_length_utf16 Units 0xFFFFFFFFFFFFFFFE ≡ Some 0x8000000000000000
most_pairs = refl
