-- What conversions read and write.
use Rattle.std.specs.Prelude.{◌≡◌, ℕ, ◌+◌, ◌%◌, ◌<◌, ◌≤◌, List, map, take, slice_index}
use Rattle.std.specs.Str.{chars, encode_utf8_all}
use Rattle.std.specs.Str.Lossy.{utf8_valid_len}
use Rattle.std.specs.Char.Utf16.{utf16_lossy_chars}
use Rattle.encoding_mem.specs.Surrogates.{IsSurrogatePair}
use Rattle.encoding_mem.specs.calls.Writing.{encode_utf16_all}

-- the low eight bits of each unit of UTF-16, as a byte
abbrev pub low_bytes : List ℕ → List ℕ
low_bytes units = map (λ u. u % 256) units

-- the text of units of UTF-16 as bytes of UTF-8: a surrogate in no pair gives U+FFFD
abbrev pub units_in_utf8 : List ℕ → List ℕ
units_in_utf8 units = encode_utf8_all (utf16_lossy_chars units)

-- the units of UTF-16 of a text, which is given as its bytes in UTF-8
abbrev pub text_in_utf16 : List ℕ → List ℕ
text_in_utf16 text = encode_utf16_all (chars text)

-- A prefix of a source is the longest that fits: it is whole, by a given test, and gives no more
-- than there is room for, and each longer one that is whole gives more.
pub record IsLongest (Whole : ℕ → Type 0) (size : ℕ → ℕ) (len room n : ℕ) : Type 0 where
  pub within : n ≤ len
  pub whole : Whole n
  pub fits : size n ≤ room
  pub longest : (i : ℕ) → n < i → i ≤ len → Whole i → room < size i

-- an offset in units of UTF-16 is not between the two of a surrogate pair
abbrev pub IsUnitBoundary : List ℕ → ℕ → Type 0
IsUnitBoundary units i = (k : ℕ) → i ≡ k + 1 → ¬ (IsSurrogatePair (slice_index units k) (slice_index units i))

-- the longest prefix of some bytes that is UTF-8
abbrev pub text_prefix : List ℕ → List ℕ
text_prefix bytes = take (utf8_valid_len bytes) bytes
