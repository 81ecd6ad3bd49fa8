-- Worked rows of `specs/Replacement.antt`.
use Rattle.std.specs.Prelude.{◌≡◌, [], ◌∷◌, refl}
use Rattle.encoding_mem.specs.Piece.{well_formed, malformed, malformed_count, text}
use Rattle.encoding_tables.specs.Replacement.{pieces_replacement}

two_bytes : pieces_replacement (0x41 ∷ 0x42 ∷ []) ≡ malformed 1 ∷ well_formed 1 [] ∷ []
two_bytes = refl

no_bytes : pieces_replacement [] ≡ []
no_bytes = refl

-- one byte is the error, and all three bytes are one U+FFFD
one_byte : pieces_replacement (0x41 ∷ []) ≡ malformed 1 ∷ []
one_byte = refl

text_of_three : text (pieces_replacement (0x41 ∷ 0x42 ∷ 0x43 ∷ [])) ≡ 0xFFFD ∷ []
text_of_three = refl

one_error : malformed_count (pieces_replacement (0x41 ∷ 0x42 ∷ 0x43 ∷ [])) ≡ 1
one_error = refl
