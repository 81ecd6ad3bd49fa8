-- Where an input can be cut, and its parts decoded one by one.
use Rattle.std.specs.Prelude.{◌≡◌, ℕ, ◌<◌, List, [], ◌∷◌, ◌++◌}
use Rattle.encoding_mem.specs.Piece.{Piece, well_formed}

-- a byte that no piece of more bytes has in it, in any encoding that is compatible with ASCII: it
-- is below 30, as the line feed is
abbrev pub IsCutByte : ℕ → Type 0
IsCutByte a = a < 0x30

-- Some bytes end in a byte after which an input can be cut.
pub record EndsInCut (x : List ℕ) : Type 0 where
  pub before : List ℕ
  pub byte : ℕ
  pub is_cut : IsCutByte byte
  pub split : x ≡ before ++ byte ∷ []

-- Wherever the byte a stands, it is a piece by itself and gives the character with its number, and
-- what follows it is read as from the start.
pub record StandsAlone (pieces : List ℕ → List Piece) (a : ℕ) : Type 0 where
  pub alone : (x : List ℕ) → (before : List Piece) × (pieces (x ++ a ∷ []) ≡ before ++ well_formed 1 (a ∷ []) ∷ [])
  pub parts : (x y : List ℕ) → pieces ((x ++ a ∷ []) ++ y) ≡ pieces (x ++ a ∷ []) ++ pieces y
