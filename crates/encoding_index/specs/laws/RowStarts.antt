-- A row at the start of a text, before its line is cut off.
use Rattle.std.specs.Prelude.{◌≡◌, ℕ, ◌<◌, List, ◌∷◌, length, drop, Option, Some, codes}
use Rattle.std.specs.List.{prefix_len}
use Rattle.std.specs.Str.Lines.{lines}
use Rattle.encoding_index.specs.IndexLine.{◌>>=◌, is_space, pointer_in, behind, code_in, row_in}

-- the pointer and the code point at the start, and the bytes after them
unfoldable pub row_start : List ℕ → Option (ℕ × ℕ × List ℕ)
row_start bytes = do
  pointer ← pointer_in (drop (prefix_len is_space bytes) bytes)
  numeral ← behind (codes "\t0x") pointer.1
  code ← code_in numeral
  Some (pointer.0, code.0, code.1)

-- the first line of a text is a row, and `rest` stands after it
pub record BeginsWithRow (text : List ℕ) (row : ℕ × ℕ) (rest : List ℕ) : Type 0 where
  pub line : List ℕ
  pub first : lines text ≡ line ∷ lines rest
  pub read : row_in line ≡ Some row
  pub shorter : length rest < length text
