-- The pieces of UTF-8 (RFC 3629, section 4; Unicode, table 3-7; the Encoding Standard, section 8.1.1, "UTF-8 decoder").
-- A well-formed sequence is one scalar. A malformed sequence is the longest prefix of some well-formed sequence, and
-- one byte at least.
use Rattle.std.specs.Prelude.{ℕ, ◌+◌, ◌-◌, ◌*◌, ◌==◌, List, [], ◌∷◌, nat_lt, if◌then◌else◌}
use Rattle.std.specs.Int.{is_in_range}
use Rattle.encoding_mem.specs.Piece.{Piece, well_formed, malformed}
use Rattle.encoding_mem.specs.Pieces.{pieces_by}

-- the least byte after the first byte b in UTF-8: A0 after E0, 90 after F0 (not overlong), else 80
abbrev pub second_min : ℕ → ℕ
second_min b = if b == 0xE0 then 0xA0 else (if b == 0xF0 then 0x90 else 0x80)

-- the greatest byte after the first byte b in UTF-8: no surrogate (9F after ED), nothing above
-- U+10FFFF (8F after F4), else BF
abbrev pub second_max : ℕ → ℕ
second_max b = if b == 0xED then 0x9F else (if b == 0xF4 then 0x8F else 0xBF)

-- the scalar that two bytes of UTF-8, a lead and a continuation byte, stand for
abbrev pub scalar_of_two : ℕ → ℕ → ℕ
scalar_of_two b c = (b - 0xC0) * 64 + (c - 0x80)

-- the scalar that three bytes of UTF-8, a lead and two continuation bytes, stand for
abbrev pub scalar_of_three : ℕ → ℕ → ℕ → ℕ
scalar_of_three b c d = (b - 0xE0) * 4096 + (c - 0x80) * 64 + (d - 0x80)

-- the scalar that four bytes of UTF-8, a lead and three continuation bytes, stand for
abbrev pub scalar_of_four : ℕ → ℕ → ℕ → ℕ → ℕ
scalar_of_four b c d e = (b - 0xF0) * 262144 + (c - 0x80) * 4096 + (d - 0x80) * 64 + (e - 0x80)

-- the piece that begins with three bytes of a sequence of four in UTF-8, by the bytes after them
abbrev pub utf8_after_three : ℕ → ℕ → ℕ → List ℕ → Piece
utf8_after_three b c d [] = malformed 3
utf8_after_three b c d (e ∷ x) = if is_in_range 0x80 0xBF e
    then well_formed 4 (scalar_of_four b c d e ∷ [])
    else malformed 3

-- the piece that begins with two bytes of a sequence of three or four in UTF-8, by the bytes after
-- them
abbrev pub utf8_after_two : ℕ → ℕ → List ℕ → Piece
utf8_after_two b c [] = malformed 2
utf8_after_two b c (d ∷ x) = if is_in_range 0x80 0xBF d
    then (if nat_lt b 0xF0 then well_formed 3 (scalar_of_three b c d ∷ []) else utf8_after_three b c d x)
    else malformed 2

-- the piece that begins with the lead of a sequence of two to four in UTF-8, by the bytes after it
abbrev pub utf8_after_lead : ℕ → List ℕ → Piece
utf8_after_lead b [] = malformed 1
utf8_after_lead b (c ∷ x) = if is_in_range (second_min b) (second_max b) c
    then (if nat_lt b 0xE0 then well_formed 2 (scalar_of_two b c ∷ []) else utf8_after_two b c x)
    else malformed 1

-- the first piece of some bytes in UTF-8: a sequence that gives one scalar, or a malformed one
abbrev pub first_piece_utf8 : List ℕ → Piece
first_piece_utf8 [] = malformed 1
first_piece_utf8 (b ∷ x) = if nat_lt b 0x80
    then well_formed 1 (b ∷ [])
    else (if is_in_range 0xC2 0xF4 b then utf8_after_lead b x else malformed 1)

-- the pieces of a whole input in UTF-8: a sequence that its end cuts off is malformed
abbrev pub pieces_utf8 : List ℕ → List Piece
pieces_utf8 = pieces_by first_piece_utf8
