-- A run of text that a decoder copies as it is.
use Rattle.std.specs.Prelude.{ℕ, ◌<◌, Bool, List, [], ◌∷◌, length, map, slice_index, if◌then◌else◌}
use Rattle.std.specs.Char.{len_utf8}
use Rattle.std.specs.Str.{chars}
use Rattle.encoding_mem.specs.Piece.{Piece, well_formed}
use Rattle.encoding_mem.specs.calls.Writing.{encode_utf16_all}

-- the pieces of a text in UTF-8, by its scalars: one for each, with its length in UTF-8
abbrev pub text_pieces : List ℕ → List Piece
text_pieces cs = map (λ c. well_formed (len_utf8 c) (c ∷ [])) cs

-- the length of a text in UTF-8 as it is counted: in units of UTF-16, or in bytes
abbrev pub text_len : (is_units : Bool) → List ℕ → ℕ
text_len is_units text = if is_units then length (encode_utf16_all (chars text)) else length text

-- some bytes or units have a second one, and it is ASCII
abbrev pub IsSecondAscii : List ℕ → Type 0
IsSecondAscii xs = (1 < length xs) × (slice_index xs 1 < 0x80)
