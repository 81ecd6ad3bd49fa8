-- Worked rows of `specs/calls/TextRun.antt`: `A€` and U+1F4A9.
use Rattle.std.specs.Prelude.{◌≡◌, true, false, [], ◌∷◌, refl}
use Rattle.std.specs.Str.{chars}
use Rattle.encoding_mem.specs.Piece.{well_formed}
use Rattle.encoding_mem.specs.calls.TextRun.{text_pieces, text_len}

-- they are cut into one, three and four bytes
each_is_a_piece : text_pieces (0x41 ∷ 0x20AC ∷ 0x1F4A9 ∷ []) ≡ well_formed 1 (0x41 ∷ []) ∷ well_formed 3 (0x20AC ∷ []) ∷ well_formed 4 (0x1F4A9 ∷ []) ∷ []
each_is_a_piece = refl

-- four units, and eight bytes
units_of_text : text_len true (0x41 ∷ 0xE2 ∷ 0x82 ∷ 0xAC ∷ 0xF0 ∷ 0x9F ∷ 0x92 ∷ 0xA9 ∷ []) ≡ 4
unfolding chars
units_of_text = refl

bytes_of_text : text_len false (0x41 ∷ 0xE2 ∷ 0x82 ∷ 0xAC ∷ 0xF0 ∷ 0x9F ∷ 0x92 ∷ 0xA9 ∷ []) ≡ 8
bytes_of_text = refl
