-- The pieces of ISO-2022-JP, by the list of index jis0208 (the Encoding Standard, section 12.2.1, "ISO-2022-JP
-- decoder"). The bytes are cut before each 1B. Each part is read by itself, in the mode of the last whole escape at or
-- before its start.
use Rattle.std.specs.Prelude.{◌≡◌, ℕ, ◌+◌, ◌-◌, ◌*◌, ◌==◌, ◌&&◌, ◌||◌, Bool, false, List, [], ◌∷◌, ◌++◌, length, drop, is_some, nat_le, if◌then◌else◌, Option, Some, None}
use Rattle.std.specs.Int.{is_in_range}
use Rattle.std.specs.Option.{unwrap_or}
use Rattle.encoding_mem.specs.calls.Decoding.{DecoderState}
use Rattle.encoding_mem.specs.Piece.{Piece, well_formed, malformed, piece_of_scalar}
use Rattle.encoding_mem.specs.Pieces.{pieces_by}
use Rattle.encoding_tables.specs.Lookups.{value_of}
use Rattle.encoding_codecs.specs.declared.iso_2022_jp_decoder.Mode.{Mode}
use Rattle.encoding_codecs.specs.declared.iso_2022_jp_decoder.Mode.TheVariants.{Ascii, Roman, Katakana, Jis}

-- ---- escapes

-- the mode that three bytes switch to, if they are an escape of ISO-2022-JP
abbrev pub escape_of : ℕ → ℕ → ℕ → Option Mode
escape_of a b c = if a == 0x1B then (if b == 0x28
    then (if c == 0x42 then Some Ascii else (if c == 0x4A then Some Roman else (if c == 0x49 then Some Katakana else None)))
    else (if b == 0x24 then (if c == 0x40 then Some Jis else (if c == 0x42 then Some Jis else None)) else None)) else None

-- the mode that bytes switch to, if they begin with a whole escape of ISO-2022-JP
abbrev pub escape_at : List ℕ → Option Mode
escape_at (a ∷ b ∷ c ∷ x) = escape_of a b c
escape_at _ = None

-- ---- text

-- a byte as a piece in ISO-2022-JP's ASCII mode: itself, or malformed if 0E, 0F, 1B or above 7F
abbrev pub ascii_piece : ℕ → Piece
ascii_piece b = if nat_le 0x80 b || b == 0x0E || b == 0x0F || b == 0x1B then malformed 1 else well_formed 1 (b ∷ [])

-- a byte as a piece in ISO-2022-JP's Roman mode: 5C U+00A5, 7E U+203E, others as in ASCII mode
abbrev pub roman_piece : ℕ → Piece
roman_piece b = if b == 0x5C then well_formed 1 (0xA5 ∷ []) else (if b == 0x7E then well_formed 1 (0x203E ∷ []) else ascii_piece b)

-- a byte as a piece in ISO-2022-JP's katakana mode: U+FF61 to U+FF9F for 21 to 5F, else malformed
abbrev pub katakana_piece : ℕ → Piece
katakana_piece b = if is_in_range 0x21 0x5F b then well_formed 1 ((0xFF61 + (b - 0x21)) ∷ []) else malformed 1

-- the pointer in index jis0208 of two bytes of ISO-2022-JP from 21 to 7E: 94 for each first byte
abbrev pub jis_pair_pointer : ℕ → ℕ → ℕ
jis_pair_pointer b c = (b - 0x21) * 94 + (c - 0x21)

-- the piece that a byte from 21 to 7E begins in the mode of JIS X 0208: with the next byte, the
-- character at their pointer or malformed, and malformed alone if no byte follows
abbrev pub pair_piece : List ℕ → ℕ → List ℕ → Piece
pair_piece jis0208 b [] = malformed 1
pair_piece jis0208 b (c ∷ x) = if is_in_range 0x21 0x7E c then piece_of_scalar 2 (value_of jis0208 (jis_pair_pointer b c)) else malformed 2

-- the first piece of one or more bytes of ISO-2022-JP that begin with no whole escape, in a mode
abbrev pub first_text_piece : List ℕ → Mode → List ℕ → Piece
first_text_piece jis0208 m [] = malformed 1
first_text_piece jis0208 Ascii (b ∷ x) = ascii_piece b
first_text_piece jis0208 Roman (b ∷ x) = roman_piece b
first_text_piece jis0208 Katakana (b ∷ x) = katakana_piece b
first_text_piece jis0208 Jis (b ∷ x) = if is_in_range 0x21 0x7E b then pair_piece jis0208 b x else malformed 1

-- ---- parts

-- the bytes begin with 1B, as each escape of ISO-2022-JP does
abbrev pub begins_with_1B : List ℕ → Bool
begins_with_1B [] = false
begins_with_1B (b ∷ x) = b == 0x1B

-- the parts of an input that one more byte is put before: that byte joins the first part, or is a
-- part alone if the first begins with 1B, or if there is none
abbrev pub join_byte : ℕ → List (List ℕ) → List (List ℕ)
join_byte b [] = (b ∷ []) ∷ []
join_byte b (part ∷ next) = if begins_with_1B part then (b ∷ []) ∷ part ∷ next else (b ∷ part) ∷ next

-- the parts of an input in ISO-2022-JP: its bytes, cut before each 1B
abbrev pub cut_at_escapes : List ℕ → List (List ℕ)
cut_at_escapes [] = []
cut_at_escapes (b ∷ x) = join_byte b (cut_at_escapes x)

-- there are parts of an input, and the first begins with a whole escape of ISO-2022-JP
abbrev pub begin_with_escape : List (List ℕ) → Bool
begin_with_escape [] = false
begin_with_escape (part ∷ next) = is_some (escape_at part)

-- the piece of the escape that a part begins with: malformed if nothing else is in the part and
-- the next part begins with a whole escape, else ignored
abbrev pub escape_piece : List ℕ → List (List ℕ) → Piece
escape_piece part next = if length part == 3 && begin_with_escape next then malformed 3 else well_formed 3 []

-- The pieces of a part of an input in ISO-2022-JP, read in a mode, or, if it begins with a whole
-- escape, the escape's piece and those of the other bytes in the escape's mode.
abbrev pub pieces_of_part : List ℕ → Mode → Option Mode → List ℕ → List (List ℕ) → List Piece
pieces_of_part jis0208 m None part next = pieces_by (first_text_piece jis0208 m) part
pieces_of_part jis0208 m (Some own) part next = escape_piece part next ∷ pieces_by (first_text_piece jis0208 own) (drop 3 part)

-- the pieces of parts in a row, the first read in a mode of ISO-2022-JP: an escape at the start of
-- a part sets the mode for that part and for those after it
abbrev pub pieces_of_parts : List ℕ → Mode → List (List ℕ) → List Piece
pieces_of_parts jis0208 m [] = []
pieces_of_parts jis0208 m (part ∷ next) =
    pieces_of_part jis0208 m (escape_at part) part next ++ pieces_of_parts jis0208 (unwrap_or (escape_at part) m) next

-- the pieces of bytes of ISO-2022-JP that are read from a mode on
unfoldable pub pieces_in_mode : List ℕ → Mode → List ℕ → List Piece
pieces_in_mode jis0208 m x = pieces_of_parts jis0208 m (cut_at_escapes x)

-- the pieces of an input in ISO-2022-JP, by jis0208, read from ASCII mode on ("ISO-2022-JP
-- decoder", section 12.2.1)
abbrev pub pieces_iso_2022_jp : List ℕ → List ℕ → List Piece
pieces_iso_2022_jp jis0208 x = pieces_in_mode jis0208 Ascii x

-- the mode of ASCII of a decoder of ISO-2022-JP, in which an input begins
abbrev pub ascii_mode : Mode
ascii_mode = Ascii

-- the mode of the Roman set of JIS X 0201 of a decoder of ISO-2022-JP
abbrev pub roman_mode : Mode
roman_mode = Roman

-- the mode of JIS X 0208 of a decoder of ISO-2022-JP, two bytes a character
abbrev pub jis_mode : Mode
jis_mode = Jis

-- nothing is pending in a decoder, and what comes is read as an input in ISO-2022-JP is from its
-- start, by some list of jis0208
pub record IsNeutral (s : DecoderState) : Type 0 where
  pub none : s.pending ≡ 0
  pub jis0208 : List ℕ
  pub start : s.pieces ≡ pieces_iso_2022_jp jis0208
