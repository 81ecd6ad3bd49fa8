-- The numbers of each encoding by which room is reserved and length queries are computed.
use Rattle.std.specs.Prelude.{ℕ}
use Rattle.encoding_mem.specs.calls.DecodedLength.{decoded_length_utf8, decoded_length_single_byte, decoded_length_multibyte, decoded_length_utf16, decoded_length_replacement}
use Rattle.encoding_mem.specs.calls.EncodedLength.{encoded_length_utf8, encoded_length_single_byte, encoded_length_two_byte, encoded_length_iso_2022_jp}
use Rattle.encoding_mem.specs.declared.codec.room.DecodedLength.{DecodedLength}
use Rattle.encoding_mem.specs.declared.codec.room.EncodedLength.{EncodedLength}
use Rattle.encoding_codecs.specs.calls.Gb18030Bounds.{gb18030_need, gb18030_encoded_length}
use Rattle.encoding_front.specs.declared.encoding.Encoding.{Encoding}
use Rattle.encoding_front.specs.declared.codec_kind.CodecKind.{CodecKind}
use Rattle.encoding_front.specs.EncodingTable.{codec_kind_of}
use Rattle.encoding_front.specs.Encodings.{output_encoding_of}

-- The bounds of a codec.
pub record CodecBounds : Type 0 where
  -- the room that is enough for the text of so many bytes
  pub decoded_length : DecodedLength
  -- the most bytes that one step of the encoder writes
  pub need : ℕ
  -- the room that is enough for what a text is written as
  pub encoded_length : EncodedLength

-- the bounds of a codec with one byte for each character
abbrev pub single_byte_bounds : CodecBounds
single_byte_bounds = record { decoded_length = decoded_length_single_byte; need = 1; encoded_length = encoded_length_single_byte }

-- the bounds of a codec with one or two bytes for each character
abbrev pub two_byte_bounds : CodecBounds
two_byte_bounds = record { decoded_length = decoded_length_multibyte; need = 2; encoded_length = encoded_length_two_byte }

-- the bounds of a codec whose text takes so much room, and in whose place UTF-8 is written
abbrev pub utf8_bounds : DecodedLength → CodecBounds
utf8_bounds decoded = record { decoded_length = decoded; need = 4; encoded_length = encoded_length_utf8 }

-- the bounds of each kind of codec
abbrev pub bounds_of : CodecKind → CodecBounds
bounds_of CodecKind.Utf8 = utf8_bounds decoded_length_utf8
bounds_of (CodecKind.Utf16 big_endian) = utf8_bounds decoded_length_utf16
bounds_of CodecKind.Replacement = utf8_bounds decoded_length_replacement
bounds_of CodecKind.UserDefined = single_byte_bounds
bounds_of (CodecKind.SingleByte kind) = single_byte_bounds
bounds_of CodecKind.Big5 = two_byte_bounds
bounds_of CodecKind.EucKr = two_byte_bounds
bounds_of CodecKind.EucJp = two_byte_bounds
bounds_of CodecKind.ShiftJis = two_byte_bounds
bounds_of (CodecKind.Gb18030 extended) = record {
  decoded_length = decoded_length_multibyte;
  need = gb18030_need extended;
  encoded_length = gb18030_encoded_length extended;
}
bounds_of CodecKind.Iso2022Jp = record { decoded_length = decoded_length_multibyte; need = 3; encoded_length = encoded_length_iso_2022_jp }

-- the most bytes that one step of a codec's encoder writes
abbrev pub need_of_codec_kind : CodecKind → ℕ
need_of_codec_kind kind = (bounds_of kind).need

-- the most bytes that one step of the encoder writes, in the output encoding
abbrev pub need_of : Encoding → ℕ
need_of e = need_of_codec_kind (codec_kind_of (output_encoding_of e))

-- the room that is enough for what a text is written as, in the output encoding
abbrev pub encoded_length_of : Encoding → EncodedLength
encoded_length_of e = (bounds_of (codec_kind_of (output_encoding_of e))).encoded_length

-- the room that is enough for the text of so many bytes that a codec reads
abbrev pub decoded_length_of_codec_kind : CodecKind → DecodedLength
decoded_length_of_codec_kind kind = (bounds_of kind).decoded_length

-- the room that is enough for the text of so many bytes
abbrev pub decoded_length_of : Encoding → DecodedLength
decoded_length_of e = decoded_length_of_codec_kind (codec_kind_of e)
