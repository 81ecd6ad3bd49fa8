-- How each encoding reads the bytes to come after a mode and pending bytes are resumed.
use Rattle.std.specs.Prelude.{ℕ, List}
use Rattle.encoding_mem.specs.calls.DecodedLength.{decoded_length_single_byte}
use Rattle.encoding_mem.specs.calls.Resuming.{Reading, resumed_plain, with_none_pending}
use Rattle.encoding_tables.specs.IndexLists.{IndexLists, index_entries}
use Rattle.encoding_tables.specs.SingleByte.{pieces_single_byte}
use Rattle.encoding_tables.specs.UserDefined.{pieces_user_defined}
use Rattle.encoding_tables.specs.calls.ReplacementModes.{resumed_replacement}
use Rattle.encoding_tables.specs.declared.index_kind.IndexKind.{IndexKind}
use Rattle.encoding_codecs.specs.calls.Iso2022JpModes.{resumed_iso_2022_jp}
use Rattle.encoding_front.specs.Codecs.{codec_of}
use Rattle.encoding_front.specs.EncodingTable.{codec_kind_of}
use Rattle.encoding_front.specs.calls.CodecBounds.{decoded_length_of_codec_kind}
use Rattle.encoding_front.specs.declared.codec_kind.CodecKind.{CodecKind}
use Rattle.encoding_front.specs.declared.encoding.Encoding.{Encoding}

-- how the bytes to come are read by a kind of codec, by the lists of the indexes, if a mode, by its
-- number, and pending bytes are resumed
abbrev pub resumed_of_codec_kind : IndexLists → CodecKind → ℕ → List ℕ → Reading
resumed_of_codec_kind t (CodecKind.SingleByte kind) = with_none_pending (resumed_plain (pieces_single_byte (index_entries t kind)) decoded_length_single_byte)
resumed_of_codec_kind t CodecKind.UserDefined = with_none_pending (resumed_plain pieces_user_defined decoded_length_single_byte)
resumed_of_codec_kind t CodecKind.Replacement = resumed_replacement
resumed_of_codec_kind t CodecKind.Iso2022Jp = resumed_iso_2022_jp (index_entries t IndexKind.Jis0208)
resumed_of_codec_kind t kind = resumed_plain (codec_of t kind).pieces (decoded_length_of_codec_kind kind)

-- how the bytes to come are read in an encoding, without mark handling, if a mode and pending bytes are resumed
abbrev pub resumed_in : IndexLists → Encoding → ℕ → List ℕ → Reading
resumed_in t e = resumed_of_codec_kind t (codec_kind_of e)
