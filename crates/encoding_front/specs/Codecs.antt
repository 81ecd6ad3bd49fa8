-- What each kind of codec means: the pieces of the bytes that it reads, and what it writes for characters.
use Rattle.std.specs.Prelude.{ℕ, List}
use Rattle.encoding_mem.specs.Piece.{Piece}
use Rattle.encoding_mem.specs.Coding.{Coding}
use Rattle.encoding_mem.specs.Utf8.{pieces_utf8}
use Rattle.encoding_mem.specs.Utf8Coding.{utf8_coding}
use Rattle.encoding_mem.specs.Stateless.{stateless}
use Rattle.encoding_tables.specs.IndexLists.{IndexLists, index_entries, range_rows}
use Rattle.encoding_tables.specs.SingleByte.{pieces_single_byte, single_byte_coding}
use Rattle.encoding_tables.specs.UserDefined.{pieces_user_defined, user_defined_coding}
use Rattle.encoding_tables.specs.Utf16.{pieces_utf16}
use Rattle.encoding_tables.specs.Replacement.{pieces_replacement}
use Rattle.encoding_codecs.specs.Big5.{pieces_big5, big5_form}
use Rattle.encoding_codecs.specs.EucKr.{pieces_euc_kr, euc_kr_form}
use Rattle.encoding_codecs.specs.EucJp.{pieces_euc_jp, euc_jp_form}
use Rattle.encoding_codecs.specs.ShiftJis.{pieces_shift_jis, shift_jis_form}
use Rattle.encoding_codecs.specs.Gb18030.{pieces_gb18030}
use Rattle.encoding_codecs.specs.Iso2022Jp.{pieces_iso_2022_jp}
use Rattle.encoding_codecs.specs.Iso2022JpForms.{iso_2022_jp_coding}
use Rattle.encoding_codecs.specs.Gb18030Coding.{gb18030_form}
use Rattle.encoding_tables.specs.declared.index_kind.IndexKind.{IndexKind}
use Rattle.encoding_front.specs.declared.codec_kind.CodecKind.{CodecKind}

-- What a kind of codec reads, the pieces of an input, and what it writes, the coding of a target.
pub record Codec : Type 0 where
  -- the pieces of a whole input, without mark handling
  pub pieces : List ℕ → List Piece
  -- what is written for each character, and in which set
  pub coding : Coding

-- What each kind of codec reads and writes, by the lists of the indexes. Nothing is written in UTF-16 and in
-- replacement: in their place UTF-8 is.
abbrev pub codec_of : IndexLists → CodecKind → Codec
codec_of t CodecKind.Utf8 = record { pieces = pieces_utf8; coding = utf8_coding }
codec_of t (CodecKind.Utf16 big_endian) = record { pieces = pieces_utf16 big_endian; coding = utf8_coding }
codec_of t CodecKind.Replacement = record { pieces = pieces_replacement; coding = utf8_coding }
codec_of t CodecKind.UserDefined = record { pieces = pieces_user_defined; coding = user_defined_coding }
codec_of t (CodecKind.SingleByte kind) = let flat = index_entries t kind in
    record { pieces = pieces_single_byte flat; coding = single_byte_coding flat }
codec_of t CodecKind.Big5 = let flat = index_entries t IndexKind.Big5 in
    record { pieces = pieces_big5 flat; coding = stateless (big5_form flat) }
codec_of t CodecKind.EucKr = let flat = index_entries t IndexKind.EucKr in
    record { pieces = pieces_euc_kr flat; coding = stateless (euc_kr_form flat) }
codec_of t CodecKind.EucJp = let jis0208 = index_entries t IndexKind.Jis0208 in
    record { pieces = pieces_euc_jp jis0208 (index_entries t IndexKind.Jis0212); coding = stateless (euc_jp_form jis0208) }
codec_of t CodecKind.ShiftJis = let jis0208 = index_entries t IndexKind.Jis0208 in
    record { pieces = pieces_shift_jis jis0208; coding = stateless (shift_jis_form jis0208) }
codec_of t (CodecKind.Gb18030 extended) = let flat = index_entries t IndexKind.Gb18030 in
    record { pieces = pieces_gb18030 flat (range_rows t); coding = stateless (gb18030_form flat (range_rows t) extended) }
codec_of t CodecKind.Iso2022Jp = let jis0208 = index_entries t IndexKind.Jis0208 in
    let katakana = index_entries t IndexKind.Iso2022JpKatakana in
    record { pieces = pieces_iso_2022_jp jis0208; coding = iso_2022_jp_coding jis0208 katakana }
