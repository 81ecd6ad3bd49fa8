-- Worked rows of `specs/Utf16.antt`.
use Rattle.std.proofs.Common.{◌++◌, List}
use Rattle.std.specs.Prelude.{◌≡◌, true, false, [], ◌∷◌, map, None, Some, refl}
use Rattle.encoding_mem.specs.Parts.{StandsAlone}
use Rattle.encoding_mem.specs.Piece.{Piece, well_formed, malformed}
use Rattle.encoding_mem.specs.Pieces.{pieces_in}
use Rattle.encoding_tables.specs.Utf16.{bytes_of_units, pieces_utf16, piece_of_char}

-- U+4E00 and U+1F4A9 in both orders
big_text : pieces_utf16 true (0x4E ∷ 0 ∷ 0xD8 ∷ 0x3D ∷ 0xDC ∷ 0xA9 ∷ []) ≡ well_formed 2 (0x4E00 ∷ []) ∷ well_formed 4 (0x1F4A9 ∷ []) ∷ []
unfolding pieces_in
big_text = refl

little_text : pieces_utf16 false (0 ∷ 0x4E ∷ 0x3D ∷ 0xD8 ∷ 0xA9 ∷ 0xDC ∷ []) ≡ well_formed 2 (0x4E00 ∷ []) ∷ well_formed 4 (0x1F4A9 ∷ []) ∷ []
unfolding pieces_in
little_text = refl

-- a high surrogate before a unit that is no low one, which is read by itself
high_alone : pieces_utf16 false (0 ∷ 0xD8 ∷ 0 ∷ 0 ∷ 0 ∷ 0x4E ∷ []) ≡ malformed 2 ∷ well_formed 2 (0 ∷ []) ∷ well_formed 2 (0x4E00 ∷ []) ∷ []
unfolding pieces_in
high_alone = refl

high_before_high : pieces_utf16 true (0xD8 ∷ 0 ∷ 0xD8 ∷ 0 ∷ 0xDC ∷ 0 ∷ []) ≡ malformed 2 ∷ well_formed 4 (0x10000 ∷ []) ∷ []
unfolding pieces_in
high_before_high = refl

low_alone : pieces_utf16 true (0xDC ∷ 0 ∷ 0 ∷ 0x41 ∷ []) ≡ malformed 2 ∷ well_formed 2 (0x41 ∷ []) ∷ []
unfolding pieces_in
low_alone = refl

-- what the end cuts
high_at_the_end : pieces_utf16 true (0xD8 ∷ 0 ∷ []) ≡ malformed 2 ∷ []
unfolding pieces_in
high_at_the_end = refl

high_and_a_byte : pieces_utf16 false (0 ∷ 0xD8 ∷ 0x41 ∷ []) ≡ malformed 3 ∷ []
unfolding pieces_in
high_and_a_byte = refl

last_byte : pieces_utf16 false (0x41 ∷ 0 ∷ 0x42 ∷ []) ≡ well_formed 2 (0x41 ∷ []) ∷ malformed 1 ∷ []
unfolding pieces_in
last_byte = refl

-- the units beside the surrogates
beside_surrogates : pieces_utf16 true (0xD7 ∷ 0xFF ∷ 0xE0 ∷ 0 ∷ []) ≡ well_formed 2 (0xD7FF ∷ []) ∷ well_formed 2 (0xE000 ∷ []) ∷ []
unfolding pieces_in
beside_surrogates = refl

last_scalar : pieces_utf16 true (0xDB ∷ 0xFF ∷ 0xDF ∷ 0xFF ∷ []) ≡ well_formed 4 (0x10FFFF ∷ []) ∷ []
unfolding pieces_in
last_scalar = refl

-- the ends of both kinds of surrogates in pairs: U+10000, U+103FF, U+10FC00
ends_of_pairs : pieces_utf16 true (0xD8 ∷ 0 ∷ 0xDC ∷ 0 ∷ 0xD8 ∷ 0 ∷ 0xDF ∷ 0xFF ∷ 0xDB ∷ 0xFF ∷ 0xDC ∷ 0 ∷ [])
    ≡ well_formed 4 (0x10000 ∷ []) ∷ well_formed 4 (0x103FF ∷ []) ∷ well_formed 4 (0x10FC00 ∷ []) ∷ []
unfolding pieces_in
ends_of_pairs = refl

-- after the last high surrogate neither a high one nor U+E000 is the second of a pair
no_second : pieces_utf16 true (0xDB ∷ 0xFF ∷ 0xDB ∷ 0xFF ∷ 0xE0 ∷ 0 ∷ []) ≡ malformed 2 ∷ malformed 2 ∷ well_formed 2 (0xE000 ∷ []) ∷ []
unfolding pieces_in
no_second = refl

-- the last low surrogate alone, and a byte that the end cuts off
last_low_alone : pieces_utf16 false (0xFF ∷ 0xDF ∷ 0xD8 ∷ []) ≡ malformed 2 ∷ malformed 1 ∷ []
unfolding pieces_in
last_low_alone = refl

-- one byte alone
one_byte : pieces_utf16 true (0xD8 ∷ []) ≡ malformed 1 ∷ []
unfolding pieces_in
one_byte = refl

-- the end cuts a pair after three bytes
three_of_a_pair : pieces_utf16 true (0xD8 ∷ 0x3D ∷ 0xDC ∷ []) ≡ malformed 3 ∷ []
unfolding pieces_in
three_of_a_pair = refl

-- the units of U+1F4A9 in bytes of the other order
big_units : bytes_of_units true (0xD83D ∷ 0xDCA9 ∷ []) ≡ 0xD8 ∷ 0x3D ∷ 0xDC ∷ 0xA9 ∷ []
big_units = refl

-- two bytes up to U+FFFF, four above, and two for a surrogate alone
sizes_of_characters : map piece_of_char (Some 0xFFFF ∷ Some 0x10000 ∷ None ∷ []) ≡ well_formed 2 (0xFFFF ∷ []) ∷ well_formed 4 (0x10000 ∷ []) ∷ malformed 2 ∷ []
sizes_of_characters = refl

-- the units D83D and DCA9 (U+1F4A9) are the bytes 3D D8 A9 DC in little-endian order
bytes_of_pair : bytes_of_units false (0xD83D ∷ 0xDCA9 ∷ []) ≡ 0x3D ∷ 0xD8 ∷ 0xA9 ∷ 0xDC ∷ []
bytes_of_pair = refl

-- An input in UTF-16 is not cut after a byte 0A, which is half of a unit: the byte as a piece by itself is refuted.
line_feed_is_half_a_unit : ¬ (StandsAlone (pieces_utf16 false) 0x0A)
unfolding pieces_in
line_feed_is_half_a_unit stands = by (stands.alone []).0 (stands.alone []).1
  where
    by : (before : List Piece) → malformed 1 ∷ [] ≡ before ++ well_formed 1 (0x0A ∷ []) ∷ [] → ⊥
    by [] is = cc
    by (p ∷ []) is = cc
    by (p ∷ q ∷ before) is = cc
