-- Worked rows of `specs/TwoByte.antt`.
use Rattle.std.specs.Prelude.{◌≡◌, ℕ, List, [], ◌∷◌, nat_lt, if◌then◌else◌, refl}
use Rattle.encoding_mem.specs.Piece.{Piece, well_formed, malformed}
use Rattle.encoding_mem.specs.Pieces.{pieces_in, pieces_by}
use Rattle.encoding_codecs.specs.declared.lead_byte_rule.FirstByte.{FirstByte}
use Rattle.encoding_codecs.specs.declared.lead_byte_rule.FirstByte.TheVariants.{Alone, Lead, Unused}
use Rattle.encoding_codecs.specs.declared.two_byte.PairValue.{PairValue}
use Rattle.encoding_codecs.specs.declared.two_byte.PairValue.TheVariants.{NoChar, OneChar, TwoChars}
use Rattle.encoding_codecs.specs.TwoByte.{first_piece_two_byte}

-- an encoding for examples: 80 is U+20AC, FF unused, the others lead; 61 and E1 are the trails with a value
abbrev sample_first : ℕ → FirstByte
sample_first a = if nat_lt a 0x81 then Alone 0x20AC else (if nat_lt a 0xFF then Lead else Unused)

abbrev sample_pair : ℕ → ℕ → PairValue
sample_pair a b = if nat_lt b 0x61 then NoChar else if nat_lt b 0x62 then TwoChars 0xCA 0x304 else if nat_lt b 0xE1 then NoChar else if nat_lt b 0xE2 then OneChar 0xAC00 else NoChar

-- its pieces
unfoldable sample : List ℕ → List Piece
sample = pieces_by (first_piece_two_byte sample_first sample_pair)

characters : sample (0x41 ∷ 0x80 ∷ 0x81 ∷ 0xE1 ∷ 0xFE ∷ 0x61 ∷ [])
    ≡ well_formed 1 (0x41 ∷ []) ∷ well_formed 1 (0x20AC ∷ []) ∷ well_formed 2 (0xAC00 ∷ []) ∷ well_formed 2 (0xCA ∷ 0x304 ∷ []) ∷ []
unfolding sample pieces_in
characters = refl

-- a trail that gives nothing is left unread if it is ASCII
ascii_is_left : sample (0x81 ∷ 0x41 ∷ []) ≡ malformed 1 ∷ well_formed 1 (0x41 ∷ []) ∷ []
unfolding sample pieces_in
ascii_is_left = refl

other_is_read : sample (0x81 ∷ 0x80 ∷ 0x41 ∷ []) ≡ malformed 2 ∷ well_formed 1 (0x41 ∷ []) ∷ []
unfolding sample pieces_in
other_is_read = refl

unused_then_cut : sample (0xFF ∷ 0x81 ∷ []) ≡ malformed 1 ∷ malformed 1 ∷ []
unfolding sample pieces_in
unused_then_cut = refl
