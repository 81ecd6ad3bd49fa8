-- UTF-16 in bytes, of either order (the Encoding Standard, section 14.2.1, "shared UTF-16 decoder"; RFC 2781).
use Rattle.std.specs.Prelude.{◌≡◌, ℕ, ◌+◌, ◌*◌, ◌<◌, Bool, List, [], ◌∷◌, ◌++◌, map, slice_index, if◌then◌else◌, Option, None, Some}
use Rattle.std.specs.Int.{w16, from_be_bytes, from_le_bytes, to_be_bytes, to_le_bytes}
use Rattle.std.specs.Char.Utf16.{is_high_surrogate, is_low_surrogate, surrogate_pair_char, utf16_chars}
use Rattle.std.proofs.Math.Utf8.{scalar}
use Rattle.encoding_mem.specs.Piece.{Piece, well_formed, malformed}
use Rattle.encoding_mem.specs.Pieces.{pieces_by}
use Rattle.encoding_mem.specs.calls.Writing.{len_utf16}

-- the unit of UTF-16 that two bytes are, in big-endian or in little-endian order
abbrev pub unit_of : (big_endian : Bool) → ℕ → ℕ → ℕ
unit_of big_endian a b = if big_endian then from_be_bytes w16 (a ∷ b ∷ []) else from_le_bytes w16 (a ∷ b ∷ [])

-- the two bytes of a unit of UTF-16, in big-endian or in little-endian order
abbrev pub bytes_of_unit : (big_endian : Bool) → ℕ → List ℕ
bytes_of_unit big_endian u = if big_endian then to_be_bytes w16 u else to_le_bytes w16 u

-- the bytes of units of UTF-16, two for each, in big-endian or in little-endian order
abbrev pub bytes_of_units : (big_endian : Bool) → List ℕ → List ℕ
bytes_of_units big_endian [] = []
bytes_of_units big_endian (u ∷ us) = bytes_of_unit big_endian u ++ bytes_of_units big_endian us

-- the piece that begins with a high surrogate, by the bytes after it: 4 bytes with a low
-- surrogate; else malformed, of 2 bytes, or of 3 if a single byte is left
abbrev pub after_high_surrogate : (big_endian : Bool) → ℕ → List ℕ → Piece
after_high_surrogate big_endian u [] = malformed 2
after_high_surrogate big_endian u (c ∷ []) = malformed 3
after_high_surrogate big_endian u (c ∷ d ∷ x) = if is_low_surrogate (unit_of big_endian c d)
    then well_formed 4 (surrogate_pair_char u (unit_of big_endian c d) ∷ []) else malformed 2

-- the piece that begins with a unit of UTF-16: a high surrogate's, by the bytes after it; or a
-- character of 2 bytes; or, for a low surrogate, 2 malformed bytes
abbrev pub after_unit : (big_endian : Bool) → ℕ → List ℕ → Piece
after_unit big_endian u x = if is_high_surrogate u then after_high_surrogate big_endian u x
    else (if scalar u then well_formed 2 (u ∷ []) else malformed 2)

-- the first piece of some bytes in UTF-16: a character, or malformed: a lone surrogate, an odd
-- byte or both
abbrev pub first_piece_utf16 : (big_endian : Bool) → List ℕ → Piece
first_piece_utf16 big_endian [] = malformed 1
first_piece_utf16 big_endian (a ∷ []) = malformed 1
first_piece_utf16 big_endian (a ∷ b ∷ x) = after_unit big_endian (unit_of big_endian a b) x

-- the pieces of a whole input in UTF-16, in big-endian or in little-endian order
abbrev pub pieces_utf16 : (big_endian : Bool) → List ℕ → List Piece
pieces_utf16 big_endian x = pieces_by (first_piece_utf16 big_endian) x

-- the first `count` units are the bytes, two by two, in big-endian or in little-endian order
abbrev pub AreUnitsOf : (big_endian : Bool) → ℕ → List ℕ → List ℕ → Type 0
AreUnitsOf big_endian count units bytes = (k : ℕ) → k < count
    → slice_index units k ≡ unit_of big_endian (slice_index bytes (2 * k)) (slice_index bytes (2 * k + 1))

-- the piece of a character in UTF-16, 2 or 4 bytes, or, for a lone surrogate, 2 malformed bytes
abbrev pub piece_of_char : Option ℕ → Piece
piece_of_char None = malformed 2
piece_of_char (Some c) = well_formed (2 * len_utf16 c) (c ∷ [])

-- the pieces of units of UTF-16, put into bytes, are the characters that the units spell, and a
-- malformed piece for each surrogate in no pair
abbrev pub ReadsUnits : Type 0
ReadsUnits = (big_endian : Bool) (units : List ℕ) → ((k : ℕ) → slice_index units k < 0x10000)
    → pieces_utf16 big_endian (bytes_of_units big_endian units) ≡ map piece_of_char (utf16_chars units)
