-- If the error was returned, what is left of a replacement input has no text.
use Rattle.std.proofs.Common.{◌≡◌, ℕ, map, List, [], ◌∷◌, ◌++◌, length, refl, sym, ◌∙◌, ap, arith, Option, Some, None}
use Rattle.encoding_mem.specs.Piece.{Piece, well_formed, head_piece, piece_text}
use Rattle.encoding_tables.specs.Replacement.{NeedsRoomOnce}

-- how long the text of a first piece is
first_text : Option Piece → ℕ
first_text None = 0
first_text (Some p) = length (piece_text p)

no_text : (x : List ℕ) → first_text (head_piece (map (λ _. well_formed 1 []) x)) ≡ 0
unfolding first_text
no_text [] = refl
no_text (b ∷ x) = refl

pub needs_room_once : NeedsRoomOnce
unfolding first_text
needs_room_once s unread last free room mark same ends =
    let known = ends.1 in
    let is : head_piece (map (λ _. well_formed 1 []) (unread ++ [])) ≡ Some known.0 = ap head_piece (sym (same [] (λ _. refl))) ∙ known.1 [] (λ _. refl) in
    let text : length (piece_text known.0) ≡ 0 = sym (ap first_text is) ∙ no_text (unread ++ []) in
    omega (arith, text, known.2)
