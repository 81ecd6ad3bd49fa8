-- Codecs in which each byte is a piece by itself, and each character has one byte or none: what a byte reads as, and
-- what a character is written as, is looked up.
use Rattle.std.specs.Prelude.{ℕ, List, [], ◌∷◌, Option}
use Rattle.std.specs.Option.{option_map}
use Rattle.encoding_mem.specs.Coding.{form_of_bytes}
use Rattle.encoding_mem.specs.Piece.{Piece, malformed, piece_of_scalar}
use Rattle.encoding_mem.specs.declared.codec.form.Form.{Form}

-- the first piece of some bytes: the character that `char_of` gives the first byte, or malformed
abbrev pub first_piece_by_byte : (ℕ → Option ℕ) → List ℕ → Piece
first_piece_by_byte char_of [] = malformed 1
first_piece_by_byte char_of (b ∷ x) = piece_of_scalar 1 (char_of b)

-- the form of a character: the one byte that `byte_of` gives it, or that it has none
abbrev pub form_by_byte : (ℕ → Option ℕ) → ℕ → Form
form_by_byte byte_of c = form_of_bytes c (option_map (λ b. b ∷ []) (byte_of c))
