-- Worked rows of `specs/Piece.antt`: `A`, a malformed sequence of three bytes, and two characters of two bytes.
use Rattle.std.specs.Prelude.{Some, None}
use Rattle.std.proofs.Common.{◌≡◌, List, [], ◌∷◌, refl, arith}
use Rattle.encoding_mem.specs.Piece.{Piece, well_formed, malformed, sizes, scalars, text, malformed_count, IsPiece, piece_of_scalar}

abbrev sample : List Piece
sample = well_formed 1 (0x41 ∷ []) ∷ malformed 3 ∷ well_formed 2 (0xCA ∷ 0x304 ∷ []) ∷ []

-- six bytes in all
bytes_in_all : sizes sample ≡ 6
bytes_in_all = refl

-- in the text the malformed sequence is one U+FFFD
text_with_replacement : text sample ≡ 0x41 ∷ 0xFFFD ∷ 0xCA ∷ 0x304 ∷ []
text_with_replacement = refl

scalars_without_it : scalars sample ≡ 0x41 ∷ 0xCA ∷ 0x304 ∷ []
scalars_without_it = refl

one_is_malformed : malformed_count sample ≡ 1
one_is_malformed = refl

-- a piece has at least one byte, no more characters than bytes, and no surrogate among them
letter_is_a_piece : IsPiece (well_formed 1 (0x41 ∷ []))
letter_is_a_piece = record { some = omega arith; few = omega arith; at_most_two = omega arith; are_scalars = refl }

no_bytes_are_none : ¬ (IsPiece (well_formed 0 []))
no_bytes_are_none piece = absurd (omega (arith, piece.some))

two_of_one_byte_are_none : ¬ (IsPiece (well_formed 1 (0xCA ∷ 0x304 ∷ [])))
two_of_one_byte_are_none piece = absurd (omega (arith, piece.few))

surrogate_is_none : ¬ (IsPiece (well_formed 3 (0xD800 ∷ [])))
surrogate_is_none piece = let surrogate = piece.are_scalars in cc

-- an index row found is a character of that many bytes, one not found is malformed
row_found : piece_of_scalar 2 (Some 0x4E00) ≡ well_formed 2 (0x4E00 ∷ [])
row_found = refl

row_not_found : piece_of_scalar 4 None ≡ malformed 4
row_not_found = refl
