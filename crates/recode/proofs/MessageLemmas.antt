-- Texts that end with a line feed.
use Rattle.std.proofs.Common.{◌≡◌, ◌-◌, ℕ, List, [], ◌∷◌, ◌++◌, length, sym, take}
use Rattle.recode_words.specs.Request.{IsLine}

-- a text that is a line feed after some others is a line
pub line_of : (text : List ℕ) → take (length text - 1) text ++ 10 ∷ [] ≡ text → IsLine text
line_of text h = (take (length text - 1) text, sym h)
