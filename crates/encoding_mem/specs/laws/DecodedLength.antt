-- Room that is enough for the pieces of a rule: what its clause on room asks for.
use Rattle.std.proofs.Common.{ℕ, ◌+◌, ◌*◌, ◌≤◌, ◌<◌, Bool, List, length, arith}
use Rattle.std.proofs.lemmas.Bool.Decides.{nat_tests}
use Rattle.std.specs.Char.{len_utf8}
use Rattle.std.specs.Str.{IsUtf8}
use Rattle.encoding_mem.specs.calls.TextRun.{text_len}
use Rattle.encoding_mem.specs.calls.Writing.{len_utf16}
use Rattle.encoding_mem.specs.laws.Writing.{len_utf16_le, cost_two, cost_two16, length-encode_utf16_chars}
use Rattle.encoding_mem.specs.calls.DecodedLength.{is_units, counts_past_malformed, cost_in, replacement_len, two_in, left_after, decoded_length, decoded_length_utf8, decoded_length_single_byte, decoded_length_multibyte}
use Rattle.encoding_mem.specs.calls.DecoderRule.{HasRoomFor, IsNotLonger, IsBasic, IsModest}
use Rattle.encoding_mem.specs.declared.codec.first_piece.FirstPiece.{FirstPiece}
use Rattle.encoding_mem.specs.declared.codec.first_piece.FirstPiece.TheVariants.{More, One, Two, Ignored, Malformed}
use Rattle.encoding_mem.specs.declared.codec.room.OutputUnit.{OutputUnit}
use Rattle.encoding_mem.specs.declared.codec.room.OutputUnit.TheVariants.{Units, Bytes, Replaced}

-- in UTF-8
short_one : (c n : ℕ) → len_utf8 c ≤ n → (k : OutputUnit) (m : ℕ) → cost_in (is_units k) c + decoded_length decoded_length_utf8 k m ≤ decoded_length decoded_length_utf8 k (n + m)
short_one c n s Units m = omega (arith, s, len_utf16_le c)
short_one c n s Bytes m = omega (arith, s)
short_one c n s Replaced m = omega (arith, s)

short_malformed : (n : ℕ) → 0 < n → (k : OutputUnit) (m : ℕ) → left_after (counts_past_malformed k) (replacement_len (is_units k)) (decoded_length decoded_length_utf8 k m) ≤ decoded_length decoded_length_utf8 k (n + m)
short_malformed n s Units m = omega (arith, s)
short_malformed n s Bytes m = omega (arith, s)
short_malformed n s Replaced m = omega (arith, s)

short_ignored : (n : ℕ) (k : OutputUnit) (m : ℕ) → decoded_length decoded_length_utf8 k m ≤ decoded_length decoded_length_utf8 k (n + m)
short_ignored n Units m = omega arith
short_ignored n Bytes m = omega arith
short_ignored n Replaced m = omega arith

-- if no scalar has more bytes than it was read from
pub roomy_short : (len : ℕ) (last : Bool) (F : FirstPiece) → IsNotLonger F → HasRoomFor (decoded_length decoded_length_utf8) (decoded_length decoded_length_utf8) len last F
roomy_short len last More s = tt
roomy_short len last (One c n) s = λ k m _. short_one c n s k m
roomy_short len last (Two c d n) s = absurd s
roomy_short len last (Ignored n) s = λ k m _. short_ignored n k m
roomy_short len last (Malformed n) s = λ k m _. short_malformed n s k m

-- a text needs its bytes at most
pub text_needs : (text : List ℕ) → IsUtf8 text → (k : OutputUnit) (m : ℕ) → text_len (is_units k) text + decoded_length decoded_length_utf8 k m ≤ decoded_length decoded_length_utf8 k (length text + m)
text_needs text utf8 Units m = omega (arith, length-encode_utf16_chars text utf8)
text_needs text utf8 Bytes m = omega arith
text_needs text utf8 Replaced m = omega arith

-- and so it does in the other encodings
pub text_needs_single_byte : (text : List ℕ) → IsUtf8 text → (k : OutputUnit) (m : ℕ) → text_len (is_units k) text + decoded_length decoded_length_single_byte k m ≤ decoded_length decoded_length_single_byte k (length text + m)
text_needs_single_byte text utf8 Units m = omega (arith, length-encode_utf16_chars text utf8)
text_needs_single_byte text utf8 Bytes m = omega arith
text_needs_single_byte text utf8 Replaced m = omega arith

pub text_needs_multibyte : (text : List ℕ) → IsUtf8 text → (k : OutputUnit) (m : ℕ) → text_len (is_units k) text + decoded_length decoded_length_multibyte k m ≤ decoded_length decoded_length_multibyte k (length text + m)
text_needs_multibyte text utf8 Units m = omega (arith, length-encode_utf16_chars text utf8)
text_needs_multibyte text utf8 Bytes m = omega arith
text_needs_multibyte text utf8 Replaced m = omega arith

-- if each byte is a scalar of the basic plane
len_utf8_basic : (c : ℕ) → c < 0x10000 → len_utf8 c ≤ 3
len_utf8_basic c basic = grind (arith, nat_tests)

len_utf16_basic : (c : ℕ) → c < 0x10000 → len_utf16 c ≤ 1
len_utf16_basic c basic = grind (arith, nat_tests)

basic_one : (c n : ℕ) → c < 0x10000 → 0 < n → (k : OutputUnit) (m : ℕ) → cost_in (is_units k) c + decoded_length decoded_length_single_byte k m ≤ decoded_length decoded_length_single_byte k (n + m)
basic_one c n low some Units m = omega (arith, some, len_utf16_basic c low)
basic_one c n low some Bytes m = omega (arith, some, len_utf8_basic c low)
basic_one c n low some Replaced m = omega (arith, some, len_utf8_basic c low)

basic_malformed : (n : ℕ) → 0 < n → (k : OutputUnit) (m : ℕ) → left_after (counts_past_malformed k) (replacement_len (is_units k)) (decoded_length decoded_length_single_byte k m) ≤ decoded_length decoded_length_single_byte k (n + m)
basic_malformed n some Units m = omega (arith, some)
basic_malformed n some Bytes m = omega (arith, some)
basic_malformed n some Replaced m = omega (arith, some)

pub roomy_basic : (len : ℕ) (last : Bool) (F : FirstPiece) → IsBasic F → HasRoomFor (decoded_length decoded_length_single_byte) (decoded_length decoded_length_single_byte) len last F
roomy_basic len last More s = tt
roomy_basic len last (One c n) s = λ k m _. basic_one c n s.0 s.1 k m
roomy_basic len last (Two c d n) s = absurd s
roomy_basic len last (Ignored n) s = absurd s
roomy_basic len last (Malformed n) s = λ k m _. basic_malformed n s k m

-- in the encodings of more than one byte
modest_one : (c n : ℕ) → len_utf8 c ≤ 3 * n → len_utf16 c ≤ n → (k : OutputUnit) (m : ℕ) → cost_in (is_units k) c + decoded_length decoded_length_multibyte k m ≤ decoded_length decoded_length_multibyte k (n + m)
modest_one c n s t Units m = omega (arith, t)
modest_one c n s t Bytes m = omega (arith, s)
modest_one c n s t Replaced m = omega (arith, s)

modest_two : (c d n : ℕ) → c < 0x800 → d < 0x800 → 2 ≤ n → (k : OutputUnit) (m : ℕ) → (two_in (is_units k) ≤ decoded_length decoded_length_multibyte k (n + m)) × (cost_in (is_units k) c + cost_in (is_units k) d + decoded_length decoded_length_multibyte k m ≤ decoded_length decoded_length_multibyte k (n + m))
modest_two c d n low lower s Units m = (omega (arith, s), omega (arith, s, cost_two16 c d low lower))
modest_two c d n low lower s Bytes m = (omega (arith, s), omega (arith, s, cost_two c d low lower))
modest_two c d n low lower s Replaced m = (omega (arith, s), omega (arith, s, cost_two c d low lower))

modest_malformed : (n : ℕ) → 0 < n → (k : OutputUnit) (m : ℕ) → left_after (counts_past_malformed k) (replacement_len (is_units k)) (decoded_length decoded_length_multibyte k m) ≤ decoded_length decoded_length_multibyte k (n + m)
modest_malformed n s Units m = omega (arith, s)
modest_malformed n s Bytes m = omega (arith, s)
modest_malformed n s Replaced m = omega (arith, s)

modest_ignored : (n : ℕ) (k : OutputUnit) (m : ℕ) → decoded_length decoded_length_multibyte k m ≤ decoded_length decoded_length_multibyte k (n + m)
modest_ignored n Units m = omega arith
modest_ignored n Bytes m = omega arith
modest_ignored n Replaced m = omega arith

-- if a scalar has at most three bytes for each that it was read from, and a unit at most
pub roomy_modest : (len : ℕ) (last : Bool) (F : FirstPiece) → IsModest F → HasRoomFor (decoded_length decoded_length_multibyte) (decoded_length decoded_length_multibyte) len last F
roomy_modest len last More s = tt
roomy_modest len last (One c n) s = λ k m _. modest_one c n s.0 s.1 k m
roomy_modest len last (Two c d n) s = λ k m _. modest_two c d n s.0 s.1 s.2 k m
roomy_modest len last (Ignored n) s = λ k m _. modest_ignored n k m
roomy_modest len last (Malformed n) s = λ k m _. modest_malformed n s k m
