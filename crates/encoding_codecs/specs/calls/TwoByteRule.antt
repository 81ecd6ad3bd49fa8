-- The encodings of one and two bytes as rules: what their proofs need of a first byte, and of a lead and a trail.
use Rattle.std.specs.Prelude.{ℕ, ◌<◌, List}
use Rattle.std.specs.Char.{IsScalar}
use Rattle.encoding_codecs.specs.declared.lead_byte_rule.FirstByte.{FirstByte}
use Rattle.encoding_codecs.specs.declared.lead_byte_rule.FirstByte.TheVariants.{Alone, Lead, Unused}
use Rattle.encoding_codecs.specs.declared.two_byte.PairValue.{PairValue}
use Rattle.encoding_codecs.specs.declared.two_byte.PairValue.TheVariants.{NoChar, OneChar, TwoChars}
use Rattle.encoding_codecs.specs.Big5.{big5_first, big5_pair}
use Rattle.encoding_codecs.specs.EucKr.{euc_kr_first, euc_kr_pair}
use Rattle.encoding_codecs.specs.ShiftJis.{shift_jis_first, shift_jis_pair}

-- an encoding of one and two bytes: what a first byte from 80 on is, and what two bytes give
pub record TwoByteRule : Type 0 where
  pub first : ℕ → FirstByte
  pub pair : ℕ → ℕ → PairValue

-- the rule of Big5: what a first byte from 80 on is, and what a lead and the byte after it give
abbrev pub big5_rule : List ℕ → TwoByteRule
big5_rule flat = record { first = big5_first; pair = big5_pair flat }

-- the rule of EUC-KR: what a first byte from 80 on is, and what a lead and the byte after it give
abbrev pub euc_kr_rule : List ℕ → TwoByteRule
euc_kr_rule flat = record { first = euc_kr_first; pair = euc_kr_pair flat }

-- the rule of Shift_JIS: what a first byte from 80 on is, and what a lead and the next byte give
abbrev pub shift_jis_rule : List ℕ → TwoByteRule
shift_jis_rule jis0208 = record { first = shift_jis_first; pair = shift_jis_pair jis0208 }

-- if a first byte is a character alone, that is a scalar below U+10000
abbrev pub IsFirstByte : FirstByte → Type 0
IsFirstByte (Alone c) = IsScalar c × (c < 0x10000)
IsFirstByte Lead = Unit {0}
IsFirstByte Unused = Unit {0}

-- if a lead and a trail give one character, it is a scalar, if two, both are scalars below U+0800
abbrev pub IsPairValue : PairValue → Type 0
IsPairValue NoChar = Unit {0}
IsPairValue (OneChar c) = IsScalar c
IsPairValue (TwoChars c d) = IsScalar c × IsScalar d × (c < 0x800) × (d < 0x800)

-- a rule gives scalars alone: those of single bytes below U+10000, two of a pair each below U+0800
pub record IsTwoByte (e : TwoByteRule) : Type 0 where
  pub firsts : (a : ℕ) → IsFirstByte (e.first a)
  pub pairs : (a b : ℕ) → IsPairValue (e.pair a b)
