-- x-user-defined (the Encoding Standard, section 14.5.1, "x-user-defined decoder", and section 14.5.2, "x-user-defined
-- encoder").
use Rattle.std.specs.Prelude.{ℕ, ◌+◌, ◌-◌, List, nat_lt, if◌then◌else◌, Option, None, Some}
use Rattle.std.specs.Int.{is_in_range}
use Rattle.encoding_mem.specs.Coding.{Coding}
use Rattle.encoding_mem.specs.Piece.{Piece}
use Rattle.encoding_mem.specs.Pieces.{pieces_by}
use Rattle.encoding_mem.specs.Stateless.{stateless}
use Rattle.encoding_tables.specs.EachByte.{first_piece_by_byte, form_by_byte}

-- the character of a byte in x-user-defined: ASCII gives itself, 80 to FF hex U+F780 to U+F7FF
abbrev pub user_char_of_byte : ℕ → Option ℕ
user_char_of_byte b = if nat_lt b 0x80 then Some b
    else (if is_in_range 0x80 0xFF b then Some (0xF780 + (b - 0x80)) else None)

-- the byte of a character in x-user-defined: ASCII is itself, U+F780 to U+F7FF are 80 to FF hex
abbrev pub byte_of_user_char : ℕ → Option ℕ
byte_of_user_char c = if nat_lt c 0x80 then Some c
    else (if is_in_range 0xF780 0xF7FF c then Some (0x80 + (c - 0xF780)) else None)

-- the pieces of some bytes in x-user-defined: a character for each byte
abbrev pub pieces_user_defined : List ℕ → List Piece
pieces_user_defined = pieces_by (first_piece_by_byte user_char_of_byte)

-- x-user-defined as a target: one byte for U+0000 to U+007F and U+F780 to U+F7FF, else none
abbrev pub user_defined_coding : Coding
user_defined_coding = stateless (form_by_byte byte_of_user_char)
