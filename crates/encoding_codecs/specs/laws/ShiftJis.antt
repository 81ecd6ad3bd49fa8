-- Laws of Shift_JIS.
use Rattle.std.proofs.Common.{◌≡◌, ℕ, ◌+◌, ◌-◌, ◌<◌, true, List, [], ◌∷◌, lit≤, arith, refl, inr}
use Rattle.std.specs.Prelude.{◌==◌}
use Rattle.std.specs.Char.{IsScalar}
use Rattle.std.specs.Int.{is_in_range}
use Rattle.std.proofs.lemmas.Bool.{lt-ltb}
use Rattle.encoding_mem.specs.Coding.{IsCoding}
use Rattle.encoding_mem.specs.laws.Utf8.{scalar_from, range_from}
use Rattle.encoding_mem.specs.declared.codec.form.Form.TheVariants.{Mapped}
use Rattle.encoding_mem.specs.Stateless.{stateless}
use Rattle.encoding_tables.specs.Lookups.{AreEntries}
use Rattle.encoding_codecs.specs.JisForms.{folded, is_katakana_byte}
use Rattle.encoding_codecs.specs.laws.JisForms.{AreFew, few_or, few_map, two_byte_laws, katakana_is_char, first_if, pair_if}
use Rattle.encoding_codecs.specs.laws.Pointers.{is_value_of_entry}
use Rattle.encoding_codecs.specs.ShiftJis.{is_shift_jis_lead, is_shift_jis_trail, shift_jis_first, shift_jis_pair_pointer, shift_jis_value, shift_jis_single_byte, index_shift_jis_pointer, shift_jis_pair_bytes, shift_jis_char_bytes, shift_jis_form}
use Rattle.encoding_codecs.specs.declared.two_byte.PairValue.TheVariants.{NoChar}
use Rattle.encoding_codecs.specs.calls.TwoByteRule.{IsFirstByte, IsPairValue, IsTwoByte, shift_jis_rule}

-- a target of at most two bytes a character
few_bytes : (jis0208 : List ℕ) (c : ℕ) → AreFew (shift_jis_char_bytes jis0208 c)
few_bytes jis0208 c = few_or _ _ (few_map (λ b. b ∷ []) (shift_jis_single_byte c) (λ p. lit≤ tt)) (few_map shift_jis_pair_bytes (index_shift_jis_pointer jis0208 (folded c)) (λ p. lit≤ tt))

pub shift_jis_laws : (jis0208 : List ℕ) → IsCoding 2 (stateless (shift_jis_form jis0208))
shift_jis_laws jis0208 = two_byte_laws (shift_jis_char_bytes jis0208) (few_bytes jis0208)

-- what its bytes give are scalars
firsts : (a : ℕ) → IsFirstByte (shift_jis_first a)
firsts a =
    first_if (a == 0x80) _ _
    (λ _. (refl, lit≤ tt))
    (λ _. first_if (is_shift_jis_lead a) _ _ (λ _. tt) (λ _. first_if (is_katakana_byte a) _ _ (katakana_is_char a) (λ _. tt)))

private_use_is_scalar : (p : ℕ) → is_in_range 8836 10715 p ≡ true → IsScalar (0xE000 + (p - 8836))
private_use_is_scalar p is =
    let range = range_from 8836 10715 p is in
    scalar_from (0xE000 + (p - 8836)) (inr (omega arith, omega (arith, range.1)))

pub shift_jis_is_two_byte : (jis0208 : List ℕ) → AreEntries jis0208 → IsTwoByte (shift_jis_rule jis0208)
shift_jis_is_two_byte jis0208 scalars = record {
  firsts = firsts;
  pairs = λ a b. pair_if (is_shift_jis_trail b) _ NoChar (λ _. pointers (shift_jis_pair_pointer a b)) (λ _. tt);
}
  where
    pointers : (p : ℕ) → IsPairValue (shift_jis_value jis0208 p)
    pointers p = pair_if (is_in_range 8836 10715 p) _ _ (private_use_is_scalar p) (λ _. is_value_of_entry jis0208 scalars p)

-- ASCII gives itself
pub shift_jis_ascii : (jis0208 : List ℕ) (c : ℕ) → c < 0x80 → shift_jis_form jis0208 c ≡ Mapped (c ∷ [])
shift_jis_ascii jis0208 c low = let below : c < 0x81 = omega arith in rw (lt-ltb c 0x81 below) refl
