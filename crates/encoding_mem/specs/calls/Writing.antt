-- What is written to a destination.
use Rattle.std.specs.Char.Escape.{encode_utf16}
use Rattle.std.specs.Prelude.{◌≡◌, ℕ, ◌+◌, ◌≤◌, List, [], ◌∷◌, ◌++◌, length, take, drop, nat_lt, if◌then◌else◌}

-- how many units of UTF-16 a scalar has: 1 below U+10000, else 2
abbrev pub len_utf16 : ℕ → ℕ
len_utf16 c = if nat_lt c 0x1_0000 then 1 else 2

-- the units of UTF-16 of some scalars, in a row
abbrev pub encode_utf16_all : List ℕ → List ℕ
encode_utf16_all [] = []
encode_utf16_all (c ∷ cs) = encode_utf16 c ++ encode_utf16_all cs

-- a text was put into a buffer after what was written there, and all after the text stayed
pub record Adds (old : List ℕ) (count : ℕ) (text : List ℕ) (new : List ℕ) (total : ℕ) : Type 0 where
  pub counted : total ≡ count + length text
  pub within : total ≤ length old
  pub list : new ≡ take count old ++ (text ++ drop total old)
