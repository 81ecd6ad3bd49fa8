-- What is known of the first piece of gb18030 if more bytes may come: each definition follows the one of
-- specs/Gb18030.antt for the piece.
use Rattle.std.specs.Prelude.{ℕ, Bool, List, [], ◌∷◌, if◌then◌else◌, Option, None, Some}
use Rattle.std.specs.Int.{is_in_range}
use Rattle.encoding_mem.specs.declared.codec.first_piece.FirstPiece.{FirstPiece}
use Rattle.encoding_mem.specs.declared.codec.first_piece.FirstPiece.TheVariants.{One, Malformed}
use Rattle.encoding_mem.specs.calls.DecoderRule.{cut_short}
use Rattle.encoding_tables.specs.Ranges.{range_value}
use Rattle.encoding_codecs.specs.laws.TwoByteDecide.{decide_trail}
use Rattle.encoding_codecs.specs.Gb18030.{gb18030_pair, gb18030_four_pointer}

-- what is known of four bytes of gb18030, by the character that the ranges give them
abbrev pub decide_four : Option ℕ → FirstPiece
decide_four None = Malformed 4
decide_four (Some c) = One c 4

-- what is known of a piece of gb18030 after three bytes of a form of four, by what follows
abbrev pub gb18030_decide_three : List (ℕ × ℕ) → ℕ → ℕ → ℕ → List ℕ → Bool → FirstPiece
gb18030_decide_three rows a b c [] last = cut_short 3 last
gb18030_decide_three rows a b c (d ∷ x) last = if is_in_range 0x30 0x39 d then decide_four (range_value rows (gb18030_four_pointer a b c d)) else Malformed 1

-- what is known of a piece of gb18030 after two bytes of a form of four, by what follows
abbrev pub gb18030_decide_two : List (ℕ × ℕ) → ℕ → ℕ → List ℕ → Bool → FirstPiece
gb18030_decide_two rows a b [] last = cut_short 2 last
gb18030_decide_two rows a b (c ∷ x) last = if is_in_range 0x81 0xFE c then gb18030_decide_three rows a b c x last else Malformed 1

-- what is known of a piece of gb18030 after its lead, by what follows
abbrev pub gb18030_decide_lead : List ℕ → List (ℕ × ℕ) → ℕ → List ℕ → Bool → FirstPiece
gb18030_decide_lead flat rows a [] last = cut_short 1 last
gb18030_decide_lead flat rows a (b ∷ x) last = if is_in_range 0x30 0x39 b then gb18030_decide_two rows a b x last else decide_trail 1 (gb18030_pair flat a b) b
