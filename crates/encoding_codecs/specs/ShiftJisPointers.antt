-- The pointer that Shift_JIS writes for a character (the Encoding Standard, section 5, "index Shift_JIS pointer").
use Rattle.std.specs.Prelude.{◌≡◌, ℕ, ◌<◌, ◌≤◌, ◌⊎◌, List, Option, Some, MatchOption}
use Rattle.encoding_tables.specs.Lookups.{value_of}
use Rattle.encoding_codecs.specs.ShiftJis.{index_shift_jis_pointer}

-- p is a pointer of jis0208 below 11280 with the character c, and not one of those from 8272 to 8835
pub record IsUsedPointer (jis0208 : List ℕ) (c p : ℕ) : Type 0 where
  pub before : p < 11280
  pub used : (p < 8272) ⊎ (8836 ≤ p)
  pub entry : value_of jis0208 p ≡ Some c

-- the pointer that is given is the least used one (`IsUsedPointer`) with the character c, or none is given and there is none
abbrev pub IsLeastUsed : List ℕ → ℕ → Option ℕ → Type 0
IsLeastUsed jis0208 c o = MatchOption o
    ((p : ℕ) → ¬ (IsUsedPointer jis0208 c p))
    (λ p. IsUsedPointer jis0208 c p × ((q : ℕ) → IsUsedPointer jis0208 c q → p ≤ q))

-- Shift_JIS takes a character's least jis0208 pointer below 11280, if any, 8272 to 8835 left out
abbrev pub ShiftJisPointerIsLeast : Type 0
ShiftJisPointerIsLeast = (jis0208 : List ℕ) (c : ℕ) → IsLeastUsed jis0208 c (index_shift_jis_pointer jis0208 c)
