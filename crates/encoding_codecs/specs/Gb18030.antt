-- The pieces of gb18030, which are those of GBK too (the Encoding Standard, section 10.2.1, "gb18030 decoder"), by the
-- list of the index and by the rows of the ranges.
use Rattle.std.specs.Prelude.{ℕ, ◌+◌, ◌-◌, ◌*◌, ◌==◌, ◌||◌, List, [], ◌∷◌, nat_lt, if◌then◌else◌}
use Rattle.std.specs.Int.{is_in_range}
use Rattle.encoding_mem.specs.Piece.{Piece, malformed, piece_of_scalar}
use Rattle.encoding_mem.specs.Pieces.{pieces_by}
use Rattle.encoding_tables.specs.Lookups.{value_of}
use Rattle.encoding_tables.specs.Ranges.{range_value}
use Rattle.encoding_codecs.specs.Pointers.{value_of_entry}
use Rattle.encoding_codecs.specs.TwoByte.{first_piece_by_lead, piece_of_trail}
use Rattle.encoding_codecs.specs.declared.lead_byte_rule.FirstByte.{FirstByte}
use Rattle.encoding_codecs.specs.declared.lead_byte_rule.FirstByte.TheVariants.{Alone, Lead, Unused}
use Rattle.encoding_codecs.specs.declared.two_byte.PairValue.{PairValue}
use Rattle.encoding_codecs.specs.declared.two_byte.PairValue.TheVariants.{NoChar}

-- what a first byte from 80 on is in gb18030: 80 is the euro sign, 81 to FE a lead, FF unused
abbrev pub gb18030_first : ℕ → FirstByte
gb18030_first a = if a == 0x80 then Alone 0x20AC else (if is_in_range 0x81 0xFE a then Lead else Unused)

-- what gb18030 subtracts from a trail for its pointer ("offset"): 40 if it is below 7F, else 41
abbrev pub gb18030_trail_offset : ℕ → ℕ
gb18030_trail_offset b = if nat_lt b 0x7F then 0x40 else 0x41

-- the pointer of a lead and a trail in index gb18030: a lead has 190 trails, 40 to 7E and 80 to FE
abbrev pub gb18030_pair_pointer : ℕ → ℕ → ℕ
gb18030_pair_pointer a b = (a - 0x81) * 190 + (b - gb18030_trail_offset b)

-- what a lead and the byte after it give in gb18030, by its index: one character, or none
abbrev pub gb18030_pair : List ℕ → ℕ → ℕ → PairValue
gb18030_pair flat a b = if is_in_range 0x40 0x7E b || is_in_range 0x80 0xFE b then value_of_entry (value_of flat (gb18030_pair_pointer a b)) else NoChar

-- the pointer of four bytes in index gb18030 ranges: the second and the fourth have 10 values
-- each, the third 126
abbrev pub gb18030_four_pointer : ℕ → ℕ → ℕ → ℕ → ℕ
gb18030_four_pointer a b c d = (a - 0x81) * 12600 + (b - 0x30) * 1260 + (c - 0x81) * 10 + (d - 0x30)

-- The piece that three bytes of a form of four begin in gb18030: four bytes, by the ranges, if 30
-- to 39 is next. If another is, the first is malformed alone. If the input ends, all three are.
abbrev pub gb18030_after_three : List (ℕ × ℕ) → ℕ → ℕ → ℕ → List ℕ → Piece
gb18030_after_three rows a b c [] = malformed 3
gb18030_after_three rows a b c (d ∷ x) = if is_in_range 0x30 0x39 d then piece_of_scalar 4 (range_value rows (gb18030_four_pointer a b c d)) else malformed 1

-- The piece that two bytes of a form of four begin in gb18030: that of three if 81 to FE is next.
-- If another is, the first is malformed alone. If the input ends, both are malformed.
abbrev pub gb18030_after_two : List (ℕ × ℕ) → ℕ → ℕ → List ℕ → Piece
gb18030_after_two rows a b [] = malformed 2
gb18030_after_two rows a b (c ∷ x) = if is_in_range 0x81 0xFE c then gb18030_after_three rows a b c x else malformed 1

-- the piece that a lead of gb18030 begins: read as four bytes if 30 to 39 is next, else as two,
-- and malformed if none is next
abbrev pub gb18030_after_lead : List ℕ → List (ℕ × ℕ) → ℕ → List ℕ → Piece
gb18030_after_lead flat rows a [] = malformed 1
gb18030_after_lead flat rows a (b ∷ x) = if is_in_range 0x30 0x39 b then gb18030_after_two rows a b x else piece_of_trail 1 (gb18030_pair flat a b) b

-- the pieces of an input in gb18030 or GBK, by the list of the index and the rows of the ranges
abbrev pub pieces_gb18030 : List ℕ → List (ℕ × ℕ) → List ℕ → List Piece
pieces_gb18030 flat rows = pieces_by (first_piece_by_lead gb18030_first (gb18030_after_lead flat rows))

-- a list of an index for examples: U+4E04 at the pointer 1, and no other entry
unfoldable pub sample_flat : List ℕ
sample_flat = 0 ∷ 0x4E04 ∷ []

-- rows of ranges for examples: one row, in which the pointers from 189000 on count from U+10000
unfoldable pub sample_rows : List (ℕ × ℕ)
sample_rows = (189000, 0x10000) ∷ []
