-- What bytes decide of the pieces of an input: the pieces that are there however the input goes on.
use Rattle.std.specs.Prelude.{◌≡◌, ◌≢◌, ℕ, ◌<◌, ◌≤◌, List, [], ◌∷◌, ◌++◌, length}
use Rattle.encoding_mem.specs.Piece.{Piece, head_piece}

-- each number of a list is a byte: it is below 256
abbrev pub AreBytes : List ℕ → Type 0
AreBytes [] = Unit {0}
AreBytes (b ∷ x) = (b < 256) × AreBytes x

-- the pieces of some bytes begin with given pieces, whatever bytes follow
abbrev pub IsDecided : (List ℕ → List Piece) → List ℕ → List Piece → Type 0
IsDecided pieces x ps = (r : List ℕ) → AreBytes r → (rest : List Piece) × (pieces (x ++ r) ≡ ps ++ rest)

-- the pieces of some bytes begin with given pieces, whatever numbers follow, bytes or not
abbrev pub IsFixed : (List ℕ → List Piece) → List ℕ → List Piece → Type 0
IsFixed pieces x ps = (r : List ℕ) → (rest : List Piece) × (pieces (x ++ r) ≡ ps ++ rest)

-- the first piece of some bytes changes with more bytes, three at most
pub record IsUndecided (pieces : List ℕ → List Piece) (x : List ℕ) : Type 0 where
  pub more : List ℕ
  pub bytes : AreBytes more
  pub short : length more ≤ 3
  pub differs : head_piece (pieces x) ≢ head_piece (pieces (x ++ more))
