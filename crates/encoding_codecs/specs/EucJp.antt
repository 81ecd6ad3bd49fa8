-- EUC-JP, by the lists of the indexes jis0208 and jis0212 (the Encoding Standard, section 12.1, "EUC-JP").
use Rattle.std.specs.Prelude.{ℕ, ◌+◌, ◌-◌, ◌*◌, ◌/◌, ◌%◌, ◌==◌, ◌||◌, Bool, List, [], ◌∷◌, nat_lt, if◌then◌else◌, Option, None, Some}
use Rattle.std.specs.Int.{is_in_range}
use Rattle.std.specs.Option.{option_map, option_or}
use Rattle.encoding_mem.specs.Coding.{form_of_bytes}
use Rattle.encoding_mem.specs.Piece.{Piece, malformed}
use Rattle.encoding_mem.specs.Pieces.{pieces_by}
use Rattle.encoding_tables.specs.Lookups.{value_of, first_pointer}
use Rattle.encoding_mem.specs.declared.codec.form.Form.{Form}
use Rattle.encoding_codecs.specs.JisForms.{is_katakana_byte, katakana_of_byte, is_katakana, byte_of_katakana, folded}
use Rattle.encoding_codecs.specs.Pointers.{value_of_entry}
use Rattle.encoding_codecs.specs.TwoByte.{first_piece_by_lead, after_bytes, piece_of_trail}
use Rattle.encoding_codecs.specs.declared.lead_byte_rule.FirstByte.{FirstByte}
use Rattle.encoding_codecs.specs.declared.lead_byte_rule.FirstByte.TheVariants.{Lead, Unused}
use Rattle.encoding_codecs.specs.declared.two_byte.PairValue.{PairValue}
use Rattle.encoding_codecs.specs.declared.two_byte.PairValue.TheVariants.{NoChar, OneChar}

-- ---- the decoder

-- the bytes of EUC-JP of which two stand for a pointer: A1 to FE
abbrev pub is_pointer_byte : ℕ → Bool
is_pointer_byte b = is_in_range 0xA1 0xFE b

-- the pointer of two bytes of EUC-JP from A1 to FE: in index jis0212 after 8F, else in jis0208
abbrev pub euc_jp_pair_pointer : ℕ → ℕ → ℕ
euc_jp_pair_pointer a b = (a - 0xA1) * 94 + (b - 0xA1)

-- what a first byte from 80 on is in EUC-JP: a lead if it is 8E, 8F or A1 to FE, else unused
abbrev pub euc_jp_first : ℕ → FirstByte
euc_jp_first a = if a == 0x8E || a == 0x8F || is_pointer_byte a then Lead else Unused

-- what a byte of EUC-JP from A1 to FE and the byte after it give by the list of jis0208 or
-- jis0212: the character at their pointer, or none
abbrev pub euc_pair : List ℕ → ℕ → ℕ → PairValue
euc_pair flat a b = if is_pointer_byte b then value_of_entry (value_of flat (euc_jp_pair_pointer a b)) else NoChar

-- what a lead of EUC-JP other than 8F and the byte after it give, one character or none: halfwidth
-- katakana if the lead is 8E, else the character at their pointer in jis0208
abbrev pub euc_jp_pair : List ℕ → ℕ → ℕ → PairValue
euc_jp_pair jis0208 a b = if a == 0x8E then (if is_katakana_byte b then OneChar (katakana_of_byte b) else NoChar)
    else euc_pair jis0208 a b

-- the piece that 8F begins in EUC-JP: three bytes that give a character of jis0212, or malformed
abbrev pub euc_jp_after_8f : List ℕ → List ℕ → Piece
euc_jp_after_8f jis0212 [] = malformed 1
euc_jp_after_8f jis0212 (b ∷ x) = if is_pointer_byte b then after_bytes 2 (euc_pair jis0212 b) x else piece_of_trail 1 NoChar b

-- the piece that a lead begins in EUC-JP: at most three bytes if the lead is 8F, else at most two
abbrev pub euc_jp_after : (jis0208 jis0212 : List ℕ) → ℕ → List ℕ → Piece
euc_jp_after jis0208 jis0212 a x = if a == 0x8F then euc_jp_after_8f jis0212 x else after_bytes 1 (euc_jp_pair jis0208 a) x

-- the pieces of an input in EUC-JP, by jis0208 and jis0212 ("EUC-JP decoder", section 12.1.1)
abbrev pub pieces_euc_jp : (jis0208 jis0212 : List ℕ) → List ℕ → List Piece
pieces_euc_jp jis0208 jis0212 = pieces_by (first_piece_by_lead euc_jp_first (euc_jp_after jis0208 jis0212))

-- ---- the encoder

-- the bytes in EUC-JP of a character that is not looked up: ASCII as it is, 5C for U+00A5, 7E for
-- U+203E, 8E and a byte from A1 to DF for halfwidth katakana, and none for any other
abbrev pub euc_jp_own_bytes : ℕ → Option (List ℕ)
euc_jp_own_bytes c = if nat_lt c 0x80 then Some (c ∷ [])
    else if c == 0xA5 then Some (0x5C ∷ [])
    else if c == 0x203E then Some (0x7E ∷ [])
    else if is_katakana c then Some (0x8E ∷ byte_of_katakana c ∷ []) else None

-- the two bytes of a jis0208 pointer in EUC-JP, each from A1 on: 94 pointers for each first byte
abbrev pub euc_jp_pair_bytes : ℕ → List ℕ
euc_jp_pair_bytes p = (0xA1 + p / 94) ∷ (0xA1 + p % 94) ∷ []

-- the bytes of a character in EUC-JP, if it has some: those that need no index, else the two of
-- the least jis0208 pointer below 8836 of the character, or of U+FF0D for U+2212
abbrev pub euc_jp_char_bytes : List ℕ → ℕ → Option (List ℕ)
euc_jp_char_bytes jis0208 c = option_or (euc_jp_own_bytes c)
    (option_map euc_jp_pair_bytes (first_pointer jis0208 (folded c) 0 8836))

-- the form of a character in EUC-JP: its one or two bytes, or that it has none
abbrev pub euc_jp_form : List ℕ → ℕ → Form
euc_jp_form jis0208 c = form_of_bytes c (euc_jp_char_bytes jis0208 c)
