-- Shift_JIS, by the list of index jis0208 (the Encoding Standard, section 12.3, "Shift_JIS").
use Rattle.std.specs.Prelude.{ℕ, ◌+◌, ◌-◌, ◌*◌, ◌/◌, ◌%◌, ◌==◌, ◌||◌, Bool, List, [], ◌∷◌, nat_lt, if◌then◌else◌, Option, None, Some}
use Rattle.std.specs.Int.{is_in_range}
use Rattle.std.specs.Option.{option_map, option_or}
use Rattle.encoding_mem.specs.Coding.{form_of_bytes}
use Rattle.encoding_mem.specs.Piece.{Piece}
use Rattle.encoding_mem.specs.Pieces.{pieces_by}
use Rattle.encoding_tables.specs.Lookups.{value_of, first_pointer}
use Rattle.encoding_mem.specs.declared.codec.form.Form.{Form}
use Rattle.encoding_codecs.specs.JisForms.{is_katakana_byte, katakana_of_byte, is_katakana, byte_of_katakana, folded}
use Rattle.encoding_codecs.specs.Pointers.{value_of_entry}
use Rattle.encoding_codecs.specs.TwoByte.{first_piece_two_byte}
use Rattle.encoding_codecs.specs.declared.lead_byte_rule.FirstByte.{FirstByte}
use Rattle.encoding_codecs.specs.declared.lead_byte_rule.FirstByte.TheVariants.{Alone, Lead, Unused}
use Rattle.encoding_codecs.specs.declared.two_byte.PairValue.{PairValue}
use Rattle.encoding_codecs.specs.declared.two_byte.PairValue.TheVariants.{NoChar, OneChar}

-- ---- the decoder

-- the leads of Shift_JIS are 81 to 9F and E0 to FC
abbrev pub is_shift_jis_lead : ℕ → Bool
is_shift_jis_lead a = is_in_range 0x81 0x9F a || is_in_range 0xE0 0xFC a

-- what a first byte from 80 on is in Shift_JIS: U+0080, a lead, halfwidth katakana, or unused
abbrev pub shift_jis_first : ℕ → FirstByte
shift_jis_first a = if a == 0x80 then Alone 0x80
    else if is_shift_jis_lead a then Lead
    else if is_katakana_byte a then Alone (katakana_of_byte a) else Unused

-- the trails of Shift_JIS are 40 to 7E and 80 to FC
abbrev pub is_shift_jis_trail : ℕ → Bool
is_shift_jis_trail b = is_in_range 0x40 0x7E b || is_in_range 0x80 0xFC b

-- the pointer of a lead and a trail in Shift_JIS: each lead has 188 trails
abbrev pub shift_jis_pair_pointer : ℕ → ℕ → ℕ
shift_jis_pair_pointer a b = (a - (if nat_lt a 0xA0 then 0x81 else 0xC1)) * 188 + (b - (if nat_lt b 0x7F then 0x40 else 0x41))

-- what a pointer gives in Shift_JIS: U+E000 to U+E757 for 8836 to 10715, else its entry, or none
abbrev pub shift_jis_value : List ℕ → ℕ → PairValue
shift_jis_value jis0208 p = if is_in_range 8836 10715 p then OneChar (0xE000 + (p - 8836)) else value_of_entry (value_of jis0208 p)

-- what a lead and the byte after it give in Shift_JIS, by index jis0208: one character, or none
abbrev pub shift_jis_pair : List ℕ → ℕ → ℕ → PairValue
shift_jis_pair jis0208 a b = if is_shift_jis_trail b then shift_jis_value jis0208 (shift_jis_pair_pointer a b) else NoChar

-- the pieces of an input in Shift_JIS, by jis0208 ("Shift_JIS decoder", section 12.3.1)
abbrev pub pieces_shift_jis : List ℕ → List ℕ → List Piece
pieces_shift_jis jis0208 = pieces_by (first_piece_two_byte shift_jis_first (shift_jis_pair jis0208))

-- ---- the encoder

-- the one byte of a character in Shift_JIS, if it has one: up to U+0080 its own number, 5C for
-- U+00A5, 7E for U+203E, A1 to DF for halfwidth katakana
abbrev pub shift_jis_single_byte : ℕ → Option ℕ
shift_jis_single_byte c = if nat_lt c 0x81 then Some c
    else if c == 0xA5 then Some 0x5C
    else if c == 0x203E then Some 0x7E
    else if is_katakana c then Some (byte_of_katakana c) else None

-- "index Shift_JIS pointer" (section 5): a character's least jis0208 pointer below 11280, with
-- 8272 to 8835 left out, if there is one
abbrev pub index_shift_jis_pointer : List ℕ → ℕ → Option ℕ
index_shift_jis_pointer jis0208 c = option_or (first_pointer jis0208 c 0 8272) (first_pointer jis0208 c 8836 11280)

-- the lead of a pointer in Shift_JIS, 188 pointers for each: 81 to 9F, then E0 to FC
abbrev pub shift_jis_lead : ℕ → ℕ
shift_jis_lead p = if nat_lt (p / 188) 31 then 0x81 + p / 188 else 0xC1 + p / 188

-- the trail of a pointer in Shift_JIS, by its remainder modulo 188: 40 to 7E, then 80 to FC
abbrev pub shift_jis_trail : ℕ → ℕ
shift_jis_trail p = if nat_lt (p % 188) 63 then 0x40 + p % 188 else 0x41 + p % 188

-- the two bytes of a pointer in Shift_JIS: its lead and its trail
abbrev pub shift_jis_pair_bytes : ℕ → List ℕ
shift_jis_pair_bytes p = shift_jis_lead p ∷ shift_jis_trail p ∷ []

-- the bytes of a character in Shift_JIS, if it has some: its one byte, else the two of the "index
-- Shift_JIS pointer" of the character, or of U+FF0D for U+2212
abbrev pub shift_jis_char_bytes : List ℕ → ℕ → Option (List ℕ)
shift_jis_char_bytes jis0208 c = option_or (option_map (λ b. b ∷ []) (shift_jis_single_byte c))
    (option_map shift_jis_pair_bytes (index_shift_jis_pointer jis0208 (folded c)))

-- the form of a character in Shift_JIS: its one or two bytes, or that it has none
abbrev pub shift_jis_form : List ℕ → ℕ → Form
shift_jis_form jis0208 c = form_of_bytes c (shift_jis_char_bytes jis0208 c)
