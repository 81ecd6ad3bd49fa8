-- What a look at the start of some bytes shows in ISO-2022-JP: six bytes are looked at, at most.
use Rattle.std.specs.Prelude.{ℕ, ◌==◌, ◌&&◌, ◌||◌, not, Bool, true, false, List, [], ◌∷◌, drop, is_some, if◌then◌else◌}
use Rattle.std.specs.Int.{is_in_range}
use Rattle.std.specs.Option.{unwrap_or}
use Rattle.encoding_mem.specs.Piece.{Piece, well_formed, malformed}
use Rattle.encoding_mem.specs.declared.codec.first_piece.FirstPiece.{FirstPiece}
use Rattle.encoding_mem.specs.declared.codec.first_piece.FirstPiece.TheVariants.{More, One, Ignored, Malformed}
use Rattle.encoding_codecs.specs.Iso2022Jp.{escape_at, ascii_piece, roman_piece, katakana_piece, pair_piece}
use Rattle.encoding_codecs.specs.declared.iso_2022_jp_decoder.Mode.{Mode}
use Rattle.encoding_codecs.specs.declared.iso_2022_jp_decoder.Mode.TheVariants.{Ascii, Roman, Katakana, Jis}

-- ---- the first piece, if the list's end is the end of the input

-- an escape, by the bytes after it
abbrev pub escape_first_piece : List ℕ → Piece
escape_first_piece x = if is_some (escape_at x) then malformed 3 else well_formed 3 []

-- two bytes in JIS, the first of which is b: 1B is left
abbrev pub jis_pair_first_piece : List ℕ → ℕ → List ℕ → Piece
jis_pair_first_piece jis0208 b [] = malformed 1
jis_pair_first_piece jis0208 b (c ∷ x) = if c == 0x1B then malformed 1 else pair_piece jis0208 b (c ∷ x)

-- the byte b and what follows it, which do not begin with a whole escape
abbrev pub char_first_piece : List ℕ → Mode → ℕ → List ℕ → Piece
char_first_piece jis0208 Ascii b x = ascii_piece b
char_first_piece jis0208 Roman b x = roman_piece b
char_first_piece jis0208 Katakana b x = katakana_piece b
char_first_piece jis0208 Jis b x = if is_in_range 0x21 0x7E b then jis_pair_first_piece jis0208 b x else malformed 1

-- the first piece of bytes of ISO-2022-JP in a mode: an escape, or a piece of text
abbrev pub first_piece_iso_2022_jp : List ℕ → Mode → List ℕ → Piece
first_piece_iso_2022_jp jis0208 m [] = malformed 1
first_piece_iso_2022_jp jis0208 m (b ∷ x) = if is_some (escape_at (b ∷ x)) then escape_first_piece (drop 3 (b ∷ x)) else char_first_piece jis0208 m b x

-- the mode after it
abbrev pub mode_after : Mode → List ℕ → Mode
mode_after m x = unwrap_or (escape_at x) m

-- ---- whether more bytes may change it

-- less than an escape, and a prefix of one
abbrev pub may_be_escape : List ℕ → Bool
may_be_escape [] = true
may_be_escape (a ∷ []) = a == 0x1B
may_be_escape (a ∷ b ∷ []) = a == 0x1B && (b == 0x28 || b == 0x24)
may_be_escape (a ∷ b ∷ c ∷ x) = false

-- the first byte of two in JIS, and nothing else
abbrev pub is_jis_lead : Mode → List ℕ → Bool
is_jis_lead Ascii x = false
is_jis_lead Roman x = false
is_jis_lead Katakana x = false
is_jis_lead Jis [] = false
is_jis_lead Jis (b ∷ []) = is_in_range 0x21 0x7E b
is_jis_lead Jis (b ∷ c ∷ x) = false

-- whether more bytes may change the first piece of bytes of ISO-2022-JP in a mode
abbrev pub is_open : Mode → List ℕ → Bool
is_open m x = may_be_escape x || (if is_some (escape_at x) then may_be_escape (drop 3 x) else is_jis_lead m x)

-- ---- what is shown

-- a piece of at most one character as a report of a first piece
abbrev pub shown : Piece → FirstPiece
shown (malformed n) = Malformed n
shown (well_formed n []) = Ignored n
shown (well_formed n (c ∷ cs)) = One c n

-- what is known of the first piece of bytes of ISO-2022-JP in a mode, of which more may come
-- unless they are the last
abbrev pub decide_iso_2022_jp : List ℕ → Mode → List ℕ → Bool → FirstPiece
decide_iso_2022_jp jis0208 m x last = if not last && is_open m x then More else shown (first_piece_iso_2022_jp jis0208 m x)
