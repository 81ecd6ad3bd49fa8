use Rattle.std.proofs.Common.{List, [], ◌∷◌, ◌++◌, ◌∙◌, drop, subst, refl, ap}
use Rattle.encoding_mem.specs.Piece.{Piece, malformed, IsPiece, ArePieces}
use Rattle.encoding_mem.proofs.laws.malformed_sequences_have_bytes.Goals as goal

-- the last of some pieces is one
last_piece : (prefix : List Piece) (p : Piece) (rest : List Piece) → ArePieces ((prefix ++ p ∷ []) ++ rest) → IsPiece p
last_piece [] p rest h = h.0
last_piece (q ∷ prefix) p rest h = last_piece prefix p rest h.1

pub returns : goal.returns
returns c = λ before after src last read encode old new written a b h.
    let told = h.well_formed in
    let cut = told.4 in
    let is = h.rest [] (λ _. refl) ∙ ap (λ t. t ++ after.pieces (drop read src ++ [])) cut.2 in
    let piece = last_piece cut.0 (malformed a) (after.pieces (drop read src ++ [])) (subst ArePieces is (before.are_pieces (src ++ []))) in
    (piece.some, told.1, told.2)
