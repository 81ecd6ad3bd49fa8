-- Big5 by the list of its index (the Encoding Standard, section 11.1.1, "Big5 decoder", section 11.1.2, "Big5 encoder",
-- and section 5, "index Big5 pointer").
use Rattle.std.specs.Prelude.{ℕ, ◌+◌, ◌-◌, ◌*◌, ◌/◌, ◌%◌, ◌==◌, ◌||◌, Bool, List, [], ◌∷◌, nat_lt, if◌then◌else◌, Option}
use Rattle.std.specs.Int.{is_in_range}
use Rattle.encoding_mem.specs.Piece.{Piece}
use Rattle.encoding_mem.specs.Pieces.{pieces_by}
use Rattle.encoding_mem.specs.declared.codec.form.Form.{Form}
use Rattle.encoding_tables.specs.Lookups.{value_of, first_pointer, last_pointer}
use Rattle.encoding_codecs.specs.TwoByte.{first_piece_two_byte}
use Rattle.encoding_codecs.specs.Pointers.{value_of_entry, form_by_pointer}
use Rattle.encoding_codecs.specs.declared.lead_byte_rule.FirstByte.{FirstByte}
use Rattle.encoding_codecs.specs.declared.lead_byte_rule.FirstByte.TheVariants.{Lead, Unused}
use Rattle.encoding_codecs.specs.declared.two_byte.PairValue.{PairValue}
use Rattle.encoding_codecs.specs.declared.two_byte.PairValue.TheVariants.{NoChar, TwoChars}

-- what a first byte from 80 on is in Big5: a lead if it is 81 to FE, else unused
abbrev pub big5_first : ℕ → FirstByte
big5_first a = if is_in_range 0x81 0xFE a then Lead else Unused

-- the trails of Big5 are 40 to 7E and A1 to FE
abbrev pub is_big5_trail : ℕ → Bool
is_big5_trail b = is_in_range 0x40 0x7E b || is_in_range 0xA1 0xFE b

-- the pointer of a lead and a trail in index Big5: each lead has 157 trails
abbrev pub big5_pair_pointer : ℕ → ℕ → ℕ
big5_pair_pointer a b = (a - 0x81) * 157 + (b - (if nat_lt b 0x7F then 0x40 else 0x62))

-- what a pointer gives in Big5: for 1133, 1135, 1164 and 1166 a letter and a combining mark,
-- whatever the index holds, and for any other the character at its entry, or none
abbrev pub big5_value : List ℕ → ℕ → PairValue
big5_value flat p =
    if p == 1133 then TwoChars 0xCA 0x304
    else if p == 1135 then TwoChars 0xCA 0x30C
    else if p == 1164 then TwoChars 0xEA 0x304
    else if p == 1166 then TwoChars 0xEA 0x30C
    else value_of_entry (value_of flat p)

-- what a lead and the byte after it give in Big5, by its index: one character, two, or none
abbrev pub big5_pair : List ℕ → ℕ → ℕ → PairValue
big5_pair flat a b = if is_big5_trail b then big5_value flat (big5_pair_pointer a b) else NoChar

-- the pieces of an input in Big5, by the list of its index ("Big5 decoder", section 11.1.1)
abbrev pub pieces_big5 : List ℕ → List ℕ → List Piece
pieces_big5 flat = pieces_by (first_piece_two_byte big5_first (big5_pair flat))

-- the six characters for which Big5 writes the greatest pointer of its index, not the least
abbrev pub takes_greatest_pointer : ℕ → Bool
takes_greatest_pointer c = c == 0x2550 || c == 0x255E || c == 0x2561 || c == 0x256A || c == 0x5341 || c == 0x5345

-- "index Big5 pointer" (section 5): a character's least pointer from 5024 to 19781, and of six
-- characters the greatest, if there is one. Below 5024 Hong Kong's extensions stand.
abbrev pub index_big5_pointer : List ℕ → ℕ → Option ℕ
index_big5_pointer flat c = if takes_greatest_pointer c then last_pointer flat c 5024 19782 else first_pointer flat c 5024 19782

-- the trail in Big5 for a remainder modulo 157: 40 to 7E, then A1 to FE (hexadecimal)
abbrev pub big5_trail : ℕ → ℕ
big5_trail r = if nat_lt r 63 then 0x40 + r else 0x62 + r

-- the two bytes of a pointer in Big5: the lead, from 81 on, and the trail
abbrev pub big5_pair_bytes : ℕ → List ℕ
big5_pair_bytes p = (0x81 + p / 157) ∷ big5_trail (p % 157) ∷ []

-- the form of a character in Big5: one byte if it is ASCII, its pointer's two bytes, or none
abbrev pub big5_form : List ℕ → ℕ → Form
big5_form flat = form_by_pointer big5_pair_bytes (index_big5_pointer flat)
