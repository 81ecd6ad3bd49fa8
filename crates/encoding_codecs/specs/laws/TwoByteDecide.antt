-- What is known of the first piece if more bytes may come: each definition follows the one of specs/TwoByte.antt for
-- the piece.
use Rattle.std.specs.Prelude.{ℕ, ◌+◌, Bool, List, [], ◌∷◌, nat_lt, if◌then◌else◌}
use Rattle.encoding_mem.specs.Piece.{Piece}
use Rattle.encoding_mem.specs.declared.codec.first_piece.FirstPiece.{FirstPiece}
use Rattle.encoding_mem.specs.declared.codec.first_piece.FirstPiece.TheVariants.{More, One, Two, Malformed}
use Rattle.encoding_mem.specs.calls.DecoderRule.{cut_short}
use Rattle.encoding_codecs.specs.TwoByte.{after_bytes}
use Rattle.encoding_codecs.specs.declared.lead_byte_rule.FirstByte.{FirstByte}
use Rattle.encoding_codecs.specs.declared.lead_byte_rule.FirstByte.TheVariants.{Alone, Lead, Unused}
use Rattle.encoding_codecs.specs.declared.two_byte.PairValue.{PairValue}
use Rattle.encoding_codecs.specs.declared.two_byte.PairValue.TheVariants.{NoChar, OneChar, TwoChars}
use Rattle.encoding_codecs.specs.calls.TwoByteRule.{TwoByteRule}

-- what is known of a piece by what its first byte is, from 80 on, and by what is known after a
-- lead
abbrev pub decide_of_first : FirstByte → FirstPiece → FirstPiece
decide_of_first (Alone c) prefix = One c 1
decide_of_first Lead prefix = prefix
decide_of_first Unused prefix = Malformed 1

-- what is known of the first piece of an encoding with leads, by what a first byte is and what a
-- lead begins
abbrev pub decide_by_lead : (ℕ → FirstByte) → (ℕ → List ℕ → Bool → FirstPiece) → List ℕ → Bool → FirstPiece
decide_by_lead first after [] last = More
decide_by_lead first after (a ∷ x) last = if nat_lt a 0x80 then One a 1 else decide_of_first (first a) (after a x last)

-- what is known of n bytes that need a trail, with the byte b after them, by what they give together
abbrev pub decide_trail : ℕ → PairValue → ℕ → FirstPiece
decide_trail n NoChar b = if nat_lt b 0x80 then Malformed n else Malformed (n + 1)
decide_trail n (OneChar c) b = One c (n + 1)
decide_trail n (TwoChars c d) b = Two c d (n + 1)

-- what is known of n bytes that need a trail, by what follows them and by the values of trails
abbrev pub decide_after : ℕ → (ℕ → PairValue) → List ℕ → Bool → FirstPiece
decide_after n value [] last = cut_short n last
decide_after n value (b ∷ x) last = decide_trail n (value b) b

-- The pieces of an encoding with leads: what a first byte from 80 on is, the piece that a lead begins with the bytes
-- after it, and what is known of that if more bytes may come.
pub record LeadRule : Type 0 where
  pub first : ℕ → FirstByte
  pub after : ℕ → List ℕ → Piece
  pub decide : ℕ → List ℕ → Bool → FirstPiece

-- an encoding of one and two bytes as one with leads
abbrev pub lead_rule_of : TwoByteRule → LeadRule
lead_rule_of e = record { first = e.first; after = λ a. after_bytes 1 (e.pair a); decide = λ a. decide_after 1 (e.pair a) }
