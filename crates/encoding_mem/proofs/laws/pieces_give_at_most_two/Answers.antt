use Rattle.std.proofs.Common.{◌≤◌, List, [], ◌∷◌, length}
use Rattle.std.specs.List.{AllByRecursion}
use Rattle.std.proofs.lemmas.List.Elements.{All-from_recursion}
use Rattle.encoding_mem.specs.Piece.{Piece, ArePieces, piece_scalars}
use Rattle.encoding_mem.proofs.laws.pieces_give_at_most_two.Goals as goal

each : (ps : List Piece) → ArePieces ps → AllByRecursion (λ p. length (piece_scalars p) ≤ 2) ps
each [] h = tt
each (p ∷ ps) h = (h.0.at_most_two, each ps h.1)

pub returns : goal.returns
returns c = λ state x. All-from_recursion (λ p. length (piece_scalars p) ≤ 2) (state.pieces x) (each (state.pieces x) (state.are_pieces x))
