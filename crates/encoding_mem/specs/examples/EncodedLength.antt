-- Worked rows of `specs/calls/EncodedLength.antt`: the room for a text of seven units of UTF-16, or of seven bytes of UTF-8.
use Rattle.std.specs.Prelude.{◌≡◌, ℕ, Bool, true, false, Option, Some, None, refl}
use Rattle.encoding_mem.specs.calls.DecodedLength.{checked, bound_at}
use Rattle.encoding_mem.specs.calls.EncodedLength.{bound_for, encoded_length_utf8, encoded_length_single_byte, encoded_length_two_byte, encoded_length_gb18030, encoded_length_iso_2022_jp}
use Rattle.encoding_mem.specs.declared.codec.room.EncodedLength.{EncodedLength}

-- the room for n units or n bytes of text; none if it passes a usize
abbrev room_for : EncodedLength → (is_units : Bool) → ℕ → Option ℕ
room_for room is_units n = checked (bound_at (bound_for room is_units) n)

-- two bytes a character (Big5, EUC-JP, EUC-KR, Shift_JIS, GBK): 2n from UTF-16, n + 1 from UTF-8
two_byte_from_units : room_for encoded_length_two_byte true 7 ≡ Some 14
two_byte_from_units = refl

two_byte_from_bytes : room_for encoded_length_two_byte false 7 ≡ Some 8
two_byte_from_bytes = refl

-- gb18030: 4n, 2n + 2
gb18030_from_units : room_for encoded_length_gb18030 true 7 ≡ Some 28
gb18030_from_units = refl

gb18030_from_bytes : room_for encoded_length_gb18030 false 7 ≡ Some 16
gb18030_from_bytes = refl

-- ISO-2022-JP: 5n + 3, 4n + 3
iso_2022_jp_from_units : room_for encoded_length_iso_2022_jp true 7 ≡ Some 38
iso_2022_jp_from_units = refl

iso_2022_jp_from_bytes : room_for encoded_length_iso_2022_jp false 7 ≡ Some 31
iso_2022_jp_from_bytes = refl

-- UTF-8: 3n, n
utf8_from_units : room_for encoded_length_utf8 true 7 ≡ Some 21
utf8_from_units = refl

utf8_from_bytes : room_for encoded_length_utf8 false 7 ≡ Some 7
utf8_from_bytes = refl

-- one byte a character: n, n
single_byte_from_units : room_for encoded_length_single_byte true 7 ≡ Some 7
single_byte_from_units = refl

single_byte_from_bytes : room_for encoded_length_single_byte false 7 ≡ Some 7
single_byte_from_bytes = refl

-- for no characters there is still room for the escape to ASCII, of three bytes
escape_alone : room_for encoded_length_iso_2022_jp true 0 ≡ Some 3
escape_alone = refl

-- 4 * 4000000000000000 is 2 ^ 64, which passes a usize
gb18030_passes : room_for encoded_length_gb18030 true 0x4000000000000000 ≡ None
gb18030_passes = refl

gb18030_fits : room_for encoded_length_gb18030 true 0x3FFFFFFFFFFFFFFF ≡ Some 0xFFFFFFFFFFFFFFFC
gb18030_fits = refl
