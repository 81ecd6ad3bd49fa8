-- EUC-KR by the list of its index (the Encoding Standard, section 13.1.1, "EUC-KR decoder", and section 13.1.2, "EUC-KR
-- encoder").
use Rattle.std.specs.Prelude.{ℕ, ◌+◌, ◌-◌, ◌*◌, ◌/◌, ◌%◌, List, [], ◌∷◌, if◌then◌else◌}
use Rattle.std.specs.Int.{is_in_range}
use Rattle.encoding_mem.specs.Piece.{Piece}
use Rattle.encoding_mem.specs.Pieces.{pieces_by}
use Rattle.encoding_mem.specs.declared.codec.form.Form.{Form}
use Rattle.encoding_tables.specs.Lookups.{value_of, first_pointer}
use Rattle.encoding_codecs.specs.TwoByte.{first_piece_two_byte}
use Rattle.encoding_codecs.specs.Pointers.{value_of_entry, form_by_pointer}
use Rattle.encoding_codecs.specs.declared.lead_byte_rule.FirstByte.{FirstByte}
use Rattle.encoding_codecs.specs.declared.lead_byte_rule.FirstByte.TheVariants.{Lead, Unused}
use Rattle.encoding_codecs.specs.declared.two_byte.PairValue.{PairValue}
use Rattle.encoding_codecs.specs.declared.two_byte.PairValue.TheVariants.{NoChar}

-- what a first byte from 80 on is in EUC-KR: a lead if it is 81 to FE, else unused
abbrev pub euc_kr_first : ℕ → FirstByte
euc_kr_first a = if is_in_range 0x81 0xFE a then Lead else Unused

-- the pointer of a lead and a trail in index EUC-KR: each lead has 190 trails, 41 to FE
abbrev pub euc_kr_pair_pointer : ℕ → ℕ → ℕ
euc_kr_pair_pointer a b = (a - 0x81) * 190 + (b - 0x41)

-- what a lead and the byte after it give in EUC-KR, by its index: one character, or none
abbrev pub euc_kr_pair : List ℕ → ℕ → ℕ → PairValue
euc_kr_pair flat a b = if is_in_range 0x41 0xFE b then value_of_entry (value_of flat (euc_kr_pair_pointer a b)) else NoChar

-- the pieces of an input in EUC-KR, by the list of its index ("EUC-KR decoder", section 13.1.1)
abbrev pub pieces_euc_kr : List ℕ → List ℕ → List Piece
pieces_euc_kr flat = pieces_by (first_piece_two_byte euc_kr_first (euc_kr_pair flat))

-- the two bytes of a pointer in EUC-KR: the lead, from 81 on, and the trail, from 41 on
abbrev pub euc_kr_pair_bytes : ℕ → List ℕ
euc_kr_pair_bytes p = (0x81 + p / 190) ∷ (0x41 + p % 190) ∷ []

-- the form of a character in EUC-KR: one byte if it is ASCII, its least pointer's two, or none
abbrev pub euc_kr_form : List ℕ → ℕ → Form
euc_kr_form flat = form_by_pointer euc_kr_pair_bytes (λ c. first_pointer flat c 0 23940)
