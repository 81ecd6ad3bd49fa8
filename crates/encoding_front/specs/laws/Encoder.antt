-- What holds of every encoder.
use Rattle.std.proofs.Common.{◌≡◌, ◌<◌, ◌≤◌, ℕ, Bool, List, refl, true, false, arith, lit<}
use Rattle.std.specs.Str.{all_scalars}
use Rattle.encoding_mem.specs.calls.EncoderCalls.{Encodes}
use Rattle.encoding_mem.specs.calls.ReadCalls.{KeepsVerdict, IsNotUnmappable}
use Rattle.encoding_mem.specs.laws.Verdict.{keeps_exact}
use Rattle.encoding_mem.specs.declared.codec.form.EscapeState.{EscapeState}
use Rattle.encoding_mem.specs.declared.codec.encoder_result.EncoderResult.{EncoderResult}
use Rattle.encoding_front.specs.laws.Encodings.{one_set_of, reads_back_exactly, step_law_of}
use Rattle.encoding_mem.specs.Coding.{IsCoding}
use Rattle.encoding_mem.specs.laws.Utf8Coding.{utf8_coding_laws}
use Rattle.encoding_tables.specs.IndexLists.{AreAcceptedTables, IndexLists, index_entries, range_rows}
use Rattle.encoding_tables.specs.laws.SingleByte.{single_byte_laws}
use Rattle.encoding_tables.specs.laws.UserDefined.{user_defined_laws}
use Rattle.encoding_tables.specs.declared.index_kind.IndexKind.{IndexKind}
use Rattle.encoding_codecs.specs.laws.Big5.{big5_laws}
use Rattle.encoding_codecs.specs.laws.EucKr.{euc_kr_laws}
use Rattle.encoding_codecs.specs.laws.EucJp.{euc_jp_laws}
use Rattle.encoding_codecs.specs.laws.ShiftJis.{shift_jis_laws}
use Rattle.encoding_codecs.specs.laws.Gb18030Coding.{gb18030_laws}
use Rattle.encoding_codecs.specs.laws.Iso2022JpForms.{iso_2022_jp_laws}
use Rattle.encoding_front.specs.Encodings.{KeepsCharacters, coding_of, output_encoding_of, pieces_of}
use Rattle.encoding_front.specs.calls.CodecBounds.{need_of, need_of_codec_kind}
use Rattle.encoding_front.specs.calls.Encoder.{kept_back, kept_by_codec_kind}
use Rattle.encoding_front.specs.EncodingTable.{codec_kind_of}
use Rattle.encoding_front.specs.declared.encoding.Encoding.{Encoding}
use Rattle.encoding_front.specs.declared.encoding.Encoding.TheVariants.{Big5}
use Rattle.encoding_front.specs.declared.codec_kind.CodecKind.{CodecKind}
use Rattle.encoding_front.specs.Codecs.{codec_of}

-- an output encoding is its own
pub output_twice : (e : Encoding) → output_encoding_of (output_encoding_of e) ≡ output_encoding_of e
output_twice Big5 = refl
output_twice _ = refl

-- a step writes something
need_of_codec_kind-positive : (s : CodecKind) → 0 < need_of_codec_kind s
need_of_codec_kind-positive (CodecKind.Gb18030 true) = lit< tt
need_of_codec_kind-positive (CodecKind.Gb18030 false) = lit< tt
need_of_codec_kind-positive _ = lit< tt

pub need_positive : (e : Encoding) → 0 < need_of e
need_positive e = need_of_codec_kind-positive (codec_kind_of (output_encoding_of e))

-- and four bytes at most
need_of_codec_kind-few : (s : CodecKind) → need_of_codec_kind s ≤ 4
need_of_codec_kind-few (CodecKind.Gb18030 true) = omega arith
need_of_codec_kind-few (CodecKind.Gb18030 false) = omega arith
need_of_codec_kind-few _ = omega arith

pub need_few : (e : Encoding) → need_of e ≤ 4
need_few e = need_of_codec_kind-few (codec_kind_of (output_encoding_of e))

-- ten bytes at most are kept back for a reference
kept_by_codec_kind-few : (s : CodecKind) → kept_by_codec_kind s ≤ 10
kept_by_codec_kind-few CodecKind.Utf8 = omega arith
kept_by_codec_kind-few _ = omega arith

pub kept_few : (e : Encoding) → kept_back e ≤ 10
kept_few e = kept_by_codec_kind-few (codec_kind_of (output_encoding_of e))

-- what is written in an output encoding is a coding
codec_coding_laws : (t : IndexLists) (s : CodecKind) → IsCoding (need_of_codec_kind s) (codec_of t s).coding
codec_coding_laws t CodecKind.Utf8 = utf8_coding_laws
codec_coding_laws t (CodecKind.SingleByte kind) = single_byte_laws (index_entries t kind)
codec_coding_laws t CodecKind.Big5 = big5_laws (index_entries t IndexKind.Big5)
codec_coding_laws t CodecKind.EucKr = euc_kr_laws (index_entries t IndexKind.EucKr)
codec_coding_laws t CodecKind.EucJp = euc_jp_laws (index_entries t IndexKind.Jis0208)
codec_coding_laws t CodecKind.ShiftJis = shift_jis_laws (index_entries t IndexKind.Jis0208)
codec_coding_laws t (CodecKind.Gb18030 extended) = gb18030_laws (index_entries t IndexKind.Gb18030) (range_rows t) extended
codec_coding_laws t CodecKind.Iso2022Jp = iso_2022_jp_laws (index_entries t IndexKind.Jis0208) (index_entries t IndexKind.Iso2022JpKatakana)
codec_coding_laws t CodecKind.UserDefined = user_defined_laws
codec_coding_laws t (CodecKind.Utf16 big_endian) = utf8_coding_laws
codec_coding_laws t CodecKind.Replacement = utf8_coding_laws

pub coding_laws : (t : IndexLists) (e : Encoding) → IsCoding (need_of e) (coding_of t e)
coding_laws t e = codec_coding_laws t (codec_kind_of (output_encoding_of e))

-- if no two characters have the same bytes, a call that reports nothing keeps a true verdict
pub kept_verdict : (t : IndexLists) (e : Encoding) → KeepsCharacters e → AreAcceptedTables t → (last : Bool) (outcome : EncoderResult) (s : EscapeState) (text w : List ℕ) (s' : EscapeState) (rest : List ℕ)
    → all_scalars text ≡ true → Encodes (coding_of t e) last outcome s text w s' rest → IsNotUnmappable outcome
    → KeepsVerdict (coding_of t e) last true (pieces_of t (output_encoding_of e)) s text true (pieces_of t (output_encoding_of e)) s' rest
kept_verdict t e kept taken =
    keeps_exact (coding_of t e) (pieces_of t (output_encoding_of e)) (coding_laws t e) (one_set_of t e kept) (reads_back_exactly t e kept taken) (step_law_of t e kept taken)
