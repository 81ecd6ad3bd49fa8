-- A line of the log: which ones are valid, and the bytes of each.
use Rattle.std.specs.Prelude.{ℕ, ◌≤◌, ◌^◌, List, ◌++◌, codes}
use Rattle.std.specs.Char.{IsScalar}
use Rattle.std.specs.Fmt.{decimal}
use Rattle.recode_log.specs.declared.line.LogLine.{LogLine}
use Rattle.recode_log.specs.declared.line.LogLine.TheVariants.{Bad, Lost}

-- a line of the log is valid: its offset in bytes or index in characters is at most 2^48, and its
-- length, if it has one, 1 to 4 bytes
abbrev pub IsValid : LogLine → Type 0
IsValid (Bad offset length) = (offset ≤ 2 ^ 48) × (1 ≤ length) × (length ≤ 4)
IsValid (Lost index scalar) = index ≤ 2 ^ 48

-- the character of a line of the log, if it has one, is a scalar, as each `char` of the code is
abbrev pub HasScalar : LogLine → Type 0
HasScalar (Bad offset length) = Unit {0}
HasScalar (Lost index scalar) = IsScalar scalar

-- two numbers in decimal digits, with a space between them
abbrev pub two_numbers : ℕ → ℕ → List ℕ
two_numbers offset value = decimal offset ++ codes " " ++ decimal value

-- the bytes of a line of the log: a word that has the space after it, two decimal numbers with a
-- space between them, and a line feed
abbrev pub row_bytes : List ℕ → ℕ → ℕ → List ℕ
row_bytes word offset value = word ++ decimal offset ++ codes " " ++ decimal value ++ codes "\n"

-- the text of a line of the log: `bad OFFSET LENGTH` or `lost INDEX SCALAR`, with the scalar that
-- is reported, and a line feed
abbrev pub line_bytes : LogLine → List ℕ
line_bytes (Bad offset length) = row_bytes (codes "bad ") offset length
line_bytes (Lost index scalar) = row_bytes (codes "lost ") index scalar
