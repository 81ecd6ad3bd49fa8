-- How far bytes that follow are their characters in Latin1: their scalars are their own numbers.
use Rattle.std.specs.Prelude.{◌≡◌, ℕ, Option, None, Some, List}
use Rattle.std.specs.Str.{IsAscii}
use Rattle.encoding_mem.specs.Piece.{Piece}
use Rattle.encoding_mem.specs.calls.Decoding.{DecoderState}
use Rattle.encoding_mem.specs.Iso2022JpAscii.{IsIso2022JpAscii}
use Rattle.encoding_mem.specs.LongestPrefix.{IsLongestPrefix}
use Rattle.encoding_tables.specs.SingleByte.{IsLatin1UpTo}
use Rattle.encoding_codecs.specs.Iso2022Jp.{IsNeutral}
use Rattle.encoding_front.specs.EncodingTable.{codec_kind_of}
use Rattle.encoding_front.specs.declared.encoding.Encoding.{Encoding}
use Rattle.encoding_front.specs.declared.codec_kind.CodecKind.{CodecKind}

-- By the index of a single-byte encoding; as ISO-2022-JP reads ASCII; up to the first byte that isn't ASCII; or it is
-- not known, as in encodings of which no byte is a character.
pub data Latin1Rule : Type 0 where
  by_index : Latin1Rule
  by_mode : Latin1Rule
  by_ascii : Latin1Rule
  untold : Latin1Rule

-- by which rule a decoder of a codec kind says how far bytes are their own Latin1 characters
abbrev pub latin1_rule_of_codec_kind : CodecKind → Latin1Rule
latin1_rule_of_codec_kind (CodecKind.SingleByte kind) = by_index
latin1_rule_of_codec_kind CodecKind.Iso2022Jp = by_mode
latin1_rule_of_codec_kind (CodecKind.Utf16 big_endian) = untold
latin1_rule_of_codec_kind CodecKind.Replacement = untold
latin1_rule_of_codec_kind _ = by_ascii

-- by which rule a decoder of an encoding says how far bytes are their own Latin1 characters
abbrev pub latin1_rule : Encoding → Latin1Rule
latin1_rule e = latin1_rule_of_codec_kind (codec_kind_of e)

-- nothing is pending, and what follows is decoded as from the start of an input
abbrev pub IsAtRest : Latin1Rule → DecoderState → Type 0
IsAtRest by_index s = s.pending ≡ 0
IsAtRest by_mode s = IsNeutral s
IsAtRest by_ascii s = s.pending ≡ 0
IsAtRest untold s = ⊥

-- By the rule the first n bytes are their own Latin1 characters, and the next one, if any, is not.
-- By `untold` it holds of no n.
abbrev pub IsLatin1Prefix : Latin1Rule → (pieces : List ℕ → List Piece) → List ℕ → ℕ → Type 0
IsLatin1Prefix by_index pieces bytes n = IsLatin1UpTo pieces bytes n
IsLatin1Prefix by_mode pieces bytes n = IsLongestPrefix IsIso2022JpAscii bytes n
IsLatin1Prefix by_ascii pieces bytes n = IsLongestPrefix IsAscii bytes n
IsLatin1Prefix untold pieces bytes n = ⊥

-- what a decoder of an encoding returns for these bytes
abbrev pub TellsLatin1 : Latin1Rule → DecoderState → List ℕ → Option ℕ → Type 0
TellsLatin1 rule s bytes None = ¬ (IsAtRest rule s)
TellsLatin1 rule s bytes (Some n) = IsAtRest rule s × IsLatin1Prefix rule s.pieces bytes n
