-- Pieces: an input is cut into consecutive bytes that are decoded together (the Encoding Standard, section 4.1,
-- "decoder": what its handler makes of the bytes between two returns).
use Rattle.std.specs.Prelude.{◌≡◌, ℕ, ◌+◌, ◌≤◌, ◌<◌, true, List, [], ◌∷◌, ◌++◌, length, Option, Some, None}
use Rattle.std.specs.Str.{all_scalars}

-- input bytes that are decoded together: how many, and the scalars that they give, or that they
-- are malformed
pub data Piece : Type 0 where
  well_formed : (size : ℕ) (chars : List ℕ) → Piece
  malformed : (size : ℕ) → Piece

-- n bytes as a piece: it gives one scalar, or, if there is none, is malformed
abbrev pub piece_of_scalar : ℕ → Option ℕ → Piece
piece_of_scalar n None = malformed n
piece_of_scalar n (Some c) = well_formed n (c ∷ [])

-- how many bytes a piece has
abbrev pub piece_len : Piece → ℕ
piece_len (well_formed n cs) = n
piece_len (malformed n) = n

-- the scalars that the bytes of a piece give: none if they are malformed
abbrev pub piece_scalars : Piece → List ℕ
piece_scalars (well_formed n cs) = cs
piece_scalars (malformed n) = []

-- the text of a piece: the scalars that its bytes give, or U+FFFD if they are malformed
abbrev pub piece_text : Piece → List ℕ
piece_text (well_formed n cs) = cs
piece_text (malformed n) = 0xFFFD ∷ []

-- a piece is well-formed, not a malformed sequence
abbrev pub IsWellFormedPiece : Piece → Type 0
IsWellFormedPiece (well_formed n cs) = Unit {0}
IsWellFormedPiece (malformed n) = ⊥

-- how many bytes some pieces have in all
abbrev pub sizes : List Piece → ℕ
sizes [] = 0
sizes (p ∷ ps) = piece_len p + sizes ps

-- the scalars that some pieces give, in a row: none for a malformed one
abbrev pub scalars : List Piece → List ℕ
scalars [] = []
scalars (p ∷ ps) = piece_scalars p ++ scalars ps

-- the text of some pieces: the scalars that they give, and U+FFFD for each malformed one
abbrev pub text : List Piece → List ℕ
text [] = []
text (p ∷ ps) = piece_text p ++ text ps

-- none of some pieces is malformed
abbrev pub AreWellFormed : List Piece → Type 0
AreWellFormed [] = Unit {0}
AreWellFormed (p ∷ ps) = IsWellFormedPiece p × AreWellFormed ps

-- how many of some pieces are malformed
abbrev pub malformed_count : List Piece → ℕ
malformed_count [] = 0
malformed_count (well_formed n cs ∷ ps) = malformed_count ps
malformed_count (malformed n ∷ ps) = 1 + malformed_count ps

-- the first of some pieces, if there is one
abbrev pub head_piece : List Piece → Option Piece
head_piece [] = None
head_piece (p ∷ ps) = Some p

-- a piece has at least one byte, and gives at most two scalars, not more than it has bytes
pub record IsPiece (p : Piece) : Type 0 where
  pub some : 0 < piece_len p
  pub few : length (piece_text p) ≤ piece_len p
  pub at_most_two : length (piece_scalars p) ≤ 2
  pub are_scalars : all_scalars (piece_scalars p) ≡ true

-- each of some pieces has bytes, and gives at most two scalars, not more than it has bytes
abbrev pub ArePieces : List Piece → Type 0
ArePieces [] = Unit {0}
ArePieces (p ∷ ps) = IsPiece p × ArePieces ps

-- a piece can be the first of n bytes: it is one, as `IsPiece` says, and has no more than n bytes
pub record Cuts (p : Piece) (n : ℕ) : Type 0 where
  pub piece : IsPiece p
  pub within : piece_len p ≤ n
