-- The bytes of each piece.
use Rattle.std.specs.Prelude.{ℕ, List, [], ◌∷◌, take, drop}
use Rattle.encoding_mem.specs.Piece.{Piece, piece_len}

-- the bytes of each piece, if the pieces stand one after another from the start of x
abbrev pub piece_bytes : List Piece → List ℕ → List (List ℕ)
piece_bytes [] x = []
piece_bytes (p ∷ ps) x = take (piece_len p) x ∷ piece_bytes ps (drop (piece_len p) x)
