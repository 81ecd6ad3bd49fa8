-- Digits at the start of some bytes.
use Rattle.std.specs.Prelude.{◌≡◌, ℕ, ◌<◌, ◌≤◌, Bool, true, false, List, length, take, slice_index, if◌then◌else◌}
use Rattle.std.specs.Char.{digit_value}
use Rattle.std.specs.Str.Parse.{digits_value}
use Rattle.encoding_index.specs.IndexLine.{is_hex_digit}

-- the value of a hexadecimal digit in upper case, and 16 for any other byte
abbrev pub hex_or_none : ℕ → ℕ
hex_or_none b = if is_hex_digit b then digit_value b else 16

-- the first `count` bytes pass, and write `value`
pub record HaveDigits (p : ℕ → Bool) (radix : ℕ) (bytes : List ℕ) (count value : ℕ) : Type 0 where
  pub within : count ≤ length bytes
  pub passes : (k : ℕ) → k < count → p (slice_index bytes k) ≡ true
  pub value_is : value ≡ digits_value radix (take count bytes)

-- no byte stands at this position that passes
abbrev pub AreEnded : (p : ℕ → Bool) → List ℕ → ℕ → Type 0
AreEnded p bytes at = at < length bytes → p (slice_index bytes at) ≡ false
