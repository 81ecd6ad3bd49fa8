-- Room that is enough for what a text is encoded to: what a target's law on room asks for.
use Rattle.std.proofs.Common.{◌≡◌, ℕ, ◌+◌, ◌*◌, ◌≤◌, ◌<◌, Bool, true, false, inl, inr, length, arith}
use Rattle.std.proofs.lemmas.Bool.{cases_lt}
use Rattle.std.proofs.lemmas.Bool.Decides.{nat_tests}
use Rattle.std.proofs.lemmas.Str.{length-encode, len_utf8_bounds}
use Rattle.std.specs.Char.{len_utf8, encode_utf8}
use Rattle.encoding_mem.specs.Coding.{mapped_bytes, FitsNeed}
use Rattle.encoding_mem.specs.calls.DecodedLength.{cost_in}
use Rattle.encoding_mem.specs.Stateless.{stateless}
use Rattle.encoding_mem.specs.calls.EncodedLength.{IsRoomFor, bound_for, encoded_length_utf8, encoded_length_single_byte, encoded_length_two_byte, encoded_length_gb18030}
use Rattle.encoding_mem.specs.Utf8Coding.{utf8_coding}
use Rattle.encoding_mem.specs.calls.Writing.{len_utf16}
use Rattle.encoding_mem.specs.declared.codec.form.Form.{Form}
use Rattle.encoding_mem.specs.declared.codec.form.Form.TheVariants.{Mapped}
use Rattle.encoding_mem.specs.declared.codec.room.EncodedLength.{EncodedLength}

pub sum_within : (a b c : ℕ) → a + b ≡ c → a ≤ c
sum_within a b c e = omega (arith, e)

-- of a target with one set
pub stateless_room : (form : ℕ → Form) (room : EncodedLength) → ((t : Bool) (c : ℕ) → length (mapped_bytes (form c)) ≤ (bound_for room t).factor * cost_in t c) → IsRoomFor (stateless form) room
stateless_room form room h t = record {
  each = λ s c. omega (arith, h t c);
  last = λ s. omega arith;
}

-- what a scalar has at least
pub cost_some : (t : Bool) (c : ℕ) → 1 ≤ cost_in t c
cost_some true c = grind (arith, nat_tests)
cost_some false c = omega (arith, (len_utf8_bounds c).0)

pub two_bytes : (c : ℕ) → 0x80 ≤ c → 2 ≤ len_utf8 c
two_bytes c high = grind (arith, nat_tests)

three_a_unit : (c : ℕ) → len_utf8 c ≤ 3 * len_utf16 c
three_a_unit c = grind (arith, nat_tests)

-- of UTF-8
utf8_bytes : (t : Bool) (c : ℕ) → length (encode_utf8 c) ≤ (bound_for encoded_length_utf8 t).factor * cost_in t c
utf8_bytes true c = omega (arith, length-encode c, three_a_unit c)
utf8_bytes false c = omega (arith, length-encode c)

pub utf8_room : IsRoomFor utf8_coding encoded_length_utf8
utf8_room = stateless_room (λ c. Mapped (encode_utf8 c)) encoded_length_utf8 utf8_bytes

-- of one byte a character
single_byte : (form : ℕ → Form) → ((c : ℕ) → FitsNeed 1 (form c)) → (t : Bool) (c : ℕ) → length (mapped_bytes (form c)) ≤ (bound_for encoded_length_single_byte t).factor * cost_in t c
single_byte form short true c = omega (arith, (short c).short, cost_some true c)
single_byte form short false c = omega (arith, (short c).short, cost_some false c)

pub single_byte_room : (form : ℕ → Form) → ((c : ℕ) → FitsNeed 1 (form c)) → IsRoomFor (stateless form) encoded_length_single_byte
single_byte_room form short = stateless_room form encoded_length_single_byte (single_byte form short)

-- of two bytes a character, and of four, if ASCII has one
two_byte : (form : ℕ → Form) → ((c : ℕ) → FitsNeed 2 (form c)) → ((c : ℕ) → c < 0x80 → FitsNeed 1 (form c)) → (t : Bool) (c : ℕ) → length (mapped_bytes (form c)) ≤ (bound_for encoded_length_two_byte t).factor * cost_in t c
two_byte form short ascii true c = omega (arith, (short c).short, cost_some true c)
two_byte form short ascii false c = elim (cases_lt c 0x80) [
  | inl low ↦ omega (arith, (ascii c low).short, cost_some false c)
  | inr high ↦ omega (arith, (short c).short, two_bytes c high)
]

pub two_byte_room : (form : ℕ → Form) → ((c : ℕ) → FitsNeed 2 (form c)) → ((c : ℕ) → c < 0x80 → FitsNeed 1 (form c)) → IsRoomFor (stateless form) encoded_length_two_byte
two_byte_room form short ascii = stateless_room form encoded_length_two_byte (two_byte form short ascii)

four_byte : (form : ℕ → Form) → ((c : ℕ) → FitsNeed 4 (form c)) → ((c : ℕ) → c < 0x80 → FitsNeed 1 (form c)) → (t : Bool) (c : ℕ) → length (mapped_bytes (form c)) ≤ (bound_for encoded_length_gb18030 t).factor * cost_in t c
four_byte form short ascii true c = omega (arith, (short c).short, cost_some true c)
four_byte form short ascii false c = elim (cases_lt c 0x80) [
  | inl low ↦ omega (arith, (ascii c low).short, cost_some false c)
  | inr high ↦ omega (arith, (short c).short, two_bytes c high)
]

pub four_byte_room : (form : ℕ → Form) → ((c : ℕ) → FitsNeed 4 (form c)) → ((c : ℕ) → c < 0x80 → FitsNeed 1 (form c)) → IsRoomFor (stateless form) encoded_length_gb18030
four_byte_room form short ascii = stateless_room form encoded_length_gb18030 (four_byte form short ascii)
