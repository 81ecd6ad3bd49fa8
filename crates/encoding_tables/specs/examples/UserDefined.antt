-- Worked rows of `specs/UserDefined.antt`.
use Rattle.std.specs.Prelude.{◌≡◌, [], ◌∷◌, None, Some, refl}
use Rattle.encoding_mem.specs.declared.codec.reference.Reference.TheVariants.{Decimal}
use Rattle.encoding_mem.specs.Coding.{output}
use Rattle.encoding_mem.specs.Piece.{well_formed}
use Rattle.encoding_mem.specs.Pieces.{pieces_in}
use Rattle.encoding_tables.specs.UserDefined.{user_char_of_byte, byte_of_user_char, pieces_user_defined, user_defined_coding}

-- the first and the last byte that are not ASCII
in_a_row : pieces_user_defined (0x7F ∷ 0x80 ∷ 0xFF ∷ [])
    ≡ well_formed 1 (0x7F ∷ []) ∷ well_formed 1 (0xF780 ∷ []) ∷ well_formed 1 (0xF7FF ∷ []) ∷ []
unfolding pieces_in
in_a_row = refl

no_bytes : pieces_user_defined [] ≡ []
unfolding pieces_in
no_bytes = refl

back : output Decimal user_defined_coding (0x7F ∷ 0xF780 ∷ 0xF7FF ∷ []) ≡ 0x7F ∷ 0x80 ∷ 0xFF ∷ []
back = refl

-- the characters beside them, and one that another encoding has at 80
before_the_first : byte_of_user_char 0xF77F ≡ None
before_the_first = refl

behind_the_last : byte_of_user_char 0xF800 ≡ None
behind_the_last = refl

no_latin1 : byte_of_user_char 0x80 ≡ None
no_latin1 = refl

-- a byte in between, either way: A4 is 24 above 80
in_between : user_char_of_byte 0xA4 ≡ Some 0xF7A4
in_between = refl

in_between_back : byte_of_user_char 0xF7A4 ≡ Some 0xA4
in_between_back = refl

-- the last ASCII character is its byte
last_ascii : byte_of_user_char 0x7F ≡ Some 0x7F
last_ascii = refl

-- a number above FF is no byte
above_bytes : user_char_of_byte 0x100 ≡ None
above_bytes = refl
