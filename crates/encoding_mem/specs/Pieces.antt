-- The pieces of a whole input: the first piece, then the pieces of what follows it.
use Rattle.std.specs.Prelude.{ℕ, zero, suc, List, [], ◌∷◌, length, drop}
use Rattle.encoding_mem.specs.Piece.{Piece, piece_len}

-- the first pieces of bytes, `fuel` at most, read from a mode on: the first piece in the mode,
-- then those of the bytes after it in the mode that follows
abbrev pub pieces_within : {M : Type 0} → (M → List ℕ → Piece) → (M → List ℕ → M) → ℕ → M → List ℕ → List Piece
pieces_within first_piece after fuel m [] = []
pieces_within first_piece after zero m (b ∷ x) = []
pieces_within first_piece after (suc fuel) m (b ∷ x) =
    first_piece m (b ∷ x) ∷ pieces_within first_piece after fuel (after m (b ∷ x)) (drop (piece_len (first_piece m (b ∷ x))) (b ∷ x))

-- the pieces of a whole input, read from a mode on: the first piece in the mode, then those of the
-- bytes after it in the mode that follows
unfoldable pub pieces_in : {M : Type 0} → (M → List ℕ → Piece) → (M → List ℕ → M) → M → List ℕ → List Piece
pieces_in first_piece after m x = pieces_within first_piece after (length x) m x

-- the pieces of a whole input for a decoder with one mode: the first piece, then those of the
-- bytes after it
abbrev pub pieces_by : (List ℕ → Piece) → List ℕ → List Piece
pieces_by first_piece x = pieces_in {M = Unit {0}} (λ _. first_piece) (λ m _. m) tt x
