-- A text that is put into units of UTF-16, character by character.
use Rattle.std.specs.Prelude.{◌≡◌, ℕ, ◌+◌, ◌≤◌, List, length, take, nat_lt, if◌then◌else◌}
use Rattle.std.specs.Str.{IsCharBoundary}
use Rattle.encoding_mem.specs.Conversions.{text_in_utf16}

-- how many bytes a character has, by the first of them (RFC 3629, section 3)
abbrev pub size_from_lead : ℕ → ℕ
size_from_lead lead = if nat_lt lead 0x80 then 1 else if nat_lt lead 0xE0 then 2 else if nat_lt lead 0xF0 then 3 else 4

-- the first units of a buffer are the first bytes of a text, up to a character boundary, in
-- UTF-16, and at least as many units are left as bytes of the text
pub record IsInUnits (text : List ℕ) (read : ℕ) (units : List ℕ) (written : ℕ) : Type 0 where
  pub boundary : IsCharBoundary text read
  pub room : written + length text ≤ read + length units
  pub prefix : take written units ≡ text_in_utf16 (take read text)
