-- What the Japanese encodings share of the characters of JIS X 0201 (the Encoding Standard, sections 12.1 to 12.3).
use Rattle.std.specs.Prelude.{ℕ, ◌+◌, ◌-◌, ◌==◌, Bool, if◌then◌else◌}
use Rattle.std.specs.Int.{is_in_range}

-- the bytes of halfwidth katakana in Shift_JIS, and after 8E in EUC-JP: A1 to DF
abbrev pub is_katakana_byte : ℕ → Bool
is_katakana_byte b = is_in_range 0xA1 0xDF b

-- the character of a byte of halfwidth katakana: A1 to DF are U+FF61 to U+FF9F
abbrev pub katakana_of_byte : ℕ → ℕ
katakana_of_byte b = 0xFF61 + (b - 0xA1)

-- the characters of halfwidth katakana, U+FF61 to U+FF9F
abbrev pub is_katakana : ℕ → Bool
is_katakana c = is_in_range 0xFF61 0xFF9F c

-- the byte of a character of halfwidth katakana: U+FF61 to U+FF9F are A1 to DF
abbrev pub byte_of_katakana : ℕ → ℕ
byte_of_katakana c = 0xA1 + (c - 0xFF61)

-- the character that is looked up in jis0208 for another: U+FF0D for U+2212, and any other itself
abbrev pub folded : ℕ → ℕ
folded c = if c == 0x2212 then 0xFF0D else c
