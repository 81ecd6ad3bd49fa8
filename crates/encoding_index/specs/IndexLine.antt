-- A line of an index text (the Encoding Standard, section 5, "Indexes"), without its end.
use Rattle.std.specs.Prelude.{ℕ, Bool, true, ◌==◌, nat_eq, nat_lt, not, ◌&&◌, ◌||◌, if◌then◌else◌, List, [], ◌∷◌, length, take, drop, Option, Some, None, option_and_then, codes}
use Rattle.std.specs.List.{list_all, prefix_len, starts_with}
use Rattle.std.specs.Str.Parse.{digits_value}

-- the byte is a space
abbrev pub is_space : ℕ → Bool
is_space b = b == 0x20

-- the byte is a space or a tab
abbrev pub is_blank : ℕ → Bool
is_blank b = b == 0x20 || b == 0x09

-- the byte is a decimal digit, `0` to `9`
abbrev pub is_decimal_digit : ℕ → Bool
is_decimal_digit b = not (nat_lt b 0x30) && nat_lt b 0x3A

-- the byte is a hexadecimal digit, `0` to `9` or, in upper case alone, `A` to `F`
abbrev pub is_hex_digit : ℕ → Bool
is_hex_digit b = is_decimal_digit b || (not (nat_lt b 0x41) && nat_lt b 0x47)

-- a line of an index text is skipped: it has nothing but spaces and tabs, or begins with `#`
unfoldable pub is_skipped : List ℕ → Bool
is_skipped line = list_all is_blank line || starts_with nat_eq line (codes "#")

infixl 10 ◌>>=◌
-- a step of a `do`: what a function gives for an option's value, or nothing if it has none
abbrev pub ◌>>=◌ : {A B : Type 0} → Option A → (A → Option B) → Option B
o >>= f = option_and_then f o

-- what follows a prefix in some bytes, if they begin with that prefix
abbrev pub behind : List ℕ → List ℕ → Option (List ℕ)
behind prefix bytes = if starts_with nat_eq bytes prefix then Some (drop (length prefix) bytes) else None

-- the number that the first `count` bytes write in a radix, and the bytes after them, if `count`
-- is `least` to `most`
abbrev pub number_in : ℕ → ℕ → ℕ → ℕ → List ℕ → Option (ℕ × List ℕ)
number_in radix least most count bytes =
    if nat_lt count least || nat_lt most count then None else Some (digits_value radix (take count bytes), drop count bytes)

-- the number that all decimal digits at the start of bytes write, and the bytes after them, if
-- there are 1 to 7 digits
abbrev pub pointer_in : List ℕ → Option (ℕ × List ℕ)
pointer_in bytes = number_in 10 1 7 (prefix_len is_decimal_digit bytes) bytes

-- the number that all hexadecimal digits at the start of bytes write, and the bytes after them, if
-- there are 4 to 6 digits
abbrev pub code_in : List ℕ → Option (ℕ × List ℕ)
code_in bytes = number_in 16 4 6 (prefix_len is_hex_digit bytes) bytes

-- a row of an index text may end before the bytes: there are none, or the first is a tab
abbrev pub is_row_end : List ℕ → Bool
is_row_end [] = true
is_row_end (b ∷ bytes) = b == 0x09

-- The pointer and the code point of a line that is a row: spaces, the pointer, a tab, `0x`, the
-- code point, which is not 0, and the line's end or a tab. Other lines give nothing.
unfoldable pub row_in : List ℕ → Option (ℕ × ℕ)
row_in line = do
  pointer ← pointer_in (drop (prefix_len is_space line) line)
  numeral ← behind (codes "\t0x") pointer.1
  code ← code_in numeral
  if code.0 == 0 || not (is_row_end code.1) then None else Some (pointer.0, code.0)
