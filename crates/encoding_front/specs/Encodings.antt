-- What each encoding means: what it is found by, what it needs, the pieces of its bytes, and what is written for a text
-- in it.
use Rattle.std.specs.Prelude.{◌≡◌, ℕ, Bool, true, false, cond, Option, None, Some, List, [], ◌∷◌, length, eqb}
use Rattle.std.specs.Borrow.{Bor}
use Rattle.std.specs.List.{starts_with}
use Rattle.encoding_labels.specs.Labels.{IsLabelOf}
use Rattle.encoding_mem.specs.Piece.{Piece}
use Rattle.encoding_mem.specs.Coding.{Coding}
use Rattle.encoding_mem.specs.declared.codec.form.EscapeState.{EscapeState}
use Rattle.encoding_mem.specs.Steps.{in_any_set}
use Rattle.encoding_mem.specs.Utf8.{pieces_utf8}
use Rattle.encoding_tables.specs.IndexLists.{IndexLists, index_entries, has}
use Rattle.encoding_tables.specs.Kinds.{is_single_byte_kind}
use Rattle.encoding_tables.specs.declared.index_kind.IndexKind.{IndexKind}
use Rattle.encoding_codecs.specs.Iso2022JpSets.{pieces_from_set}
use Rattle.encoding_front.specs.declared.encoding.Encoding.{Encoding}
use Rattle.encoding_front.specs.declared.codec_kind.CodecKind.{CodecKind}
use Rattle.encoding_front.specs.EncodingTable.{number_of, codec_kind_of}
use Rattle.encoding_front.specs.Codecs.{codec_of}

-- the encoding has the label ("get an encoding", the Encoding Standard, section 4.2)
abbrev pub HasLabel : Encoding → List ℕ → Type 0
HasLabel e label = IsLabelOf (number_of e) label

-- the byte order marks ("BOM sniff", section 6): EF BB BF of UTF-8, FE FF of UTF-16BE, FF FE of
-- UTF-16LE
abbrev pub byte_order_marks : List (Encoding × List ℕ)
byte_order_marks = (Encoding.Utf8, 0xEF ∷ 0xBB ∷ 0xBF ∷ []) ∷ (Encoding.Utf16Be, 0xFE ∷ 0xFF ∷ []) ∷ (Encoding.Utf16Le, 0xFF ∷ 0xFE ∷ []) ∷ []

-- the first of some marks with which bytes begin, if any: its encoding, and its length in bytes
abbrev pub first_mark : List (Encoding × List ℕ) → List ℕ → Option (Encoding × ℕ)
first_mark [] x = None
first_mark (mark ∷ marks) x = cond (starts_with eqb x mark.1) (Some (mark.0, length mark.1)) (first_mark marks x)

-- the byte order mark with which bytes begin, if any: its encoding, and its length in bytes
abbrev pub mark_at_start : List ℕ → Option (Encoding × ℕ)
mark_at_start x = first_mark byte_order_marks x

-- the output encoding of an encoding e with a codec of some kind: UTF-8 for UTF-16 and
-- replacement, else e
abbrev pub output_of_codec_kind : Encoding → CodecKind → Encoding
output_of_codec_kind e (CodecKind.Utf16 big_endian) = Encoding.Utf8
output_of_codec_kind e CodecKind.Replacement = Encoding.Utf8
output_of_codec_kind e _ = e

-- the output encoding ("get an output encoding", section 4.3): UTF-8 for UTF-16 and replacement, and else itself
abbrev pub output_encoding_of : Encoding → Encoding
output_encoding_of e = output_of_codec_kind e (codec_kind_of e)

-- each byte below 80 at the start of a character is that character, and it is written so, in codecs of this kind
abbrev pub is_ascii_compatible_codec_kind : CodecKind → Bool
is_ascii_compatible_codec_kind (CodecKind.Utf16 big_endian) = false
is_ascii_compatible_codec_kind CodecKind.Replacement = false
is_ascii_compatible_codec_kind CodecKind.Iso2022Jp = false
is_ascii_compatible_codec_kind _ = true

-- whether each byte below 80 at the start of a character is that character, and is written so
abbrev pub is_ascii_compatible_of : Encoding → Bool
is_ascii_compatible_of e = is_ascii_compatible_codec_kind (codec_kind_of e)

-- whether each byte is one character in codecs of this kind, or malformed
abbrev pub is_single_byte_codec_kind : CodecKind → Bool
is_single_byte_codec_kind (CodecKind.SingleByte kind) = true
is_single_byte_codec_kind CodecKind.UserDefined = true
is_single_byte_codec_kind _ = false

-- whether each byte is one character, or malformed
abbrev pub is_single_byte_of : Encoding → Bool
is_single_byte_of e = is_single_byte_codec_kind (codec_kind_of e)

-- the index of a single-byte codec is that of a single-byte encoding
abbrev pub IsProper : CodecKind → Type 0
IsProper (CodecKind.SingleByte kind) = is_single_byte_kind kind ≡ true
IsProper _ = Unit {0}

-- the encoding is UTF-8
abbrev pub IsUtf8Encoding : Encoding → Type 0
IsUtf8Encoding e = codec_kind_of e ≡ CodecKind.Utf8

-- the kinds of index that a codec looks up, to read or to write
abbrev pub needs_of_codec_kind : CodecKind → List IndexKind
needs_of_codec_kind (CodecKind.SingleByte kind) = kind ∷ []
needs_of_codec_kind CodecKind.Big5 = IndexKind.Big5 ∷ []
needs_of_codec_kind CodecKind.EucKr = IndexKind.EucKr ∷ []
needs_of_codec_kind CodecKind.EucJp = IndexKind.Jis0208 ∷ IndexKind.Jis0212 ∷ []
needs_of_codec_kind CodecKind.ShiftJis = IndexKind.Jis0208 ∷ []
needs_of_codec_kind (CodecKind.Gb18030 extended) = IndexKind.Gb18030 ∷ IndexKind.Gb18030Ranges ∷ []
needs_of_codec_kind CodecKind.Iso2022Jp = IndexKind.Jis0208 ∷ IndexKind.Iso2022JpKatakana ∷ []
needs_of_codec_kind _ = []

-- the kinds of index that an encoding looks up, to be read or written
abbrev pub needs_of : Encoding → List IndexKind
needs_of e = needs_of_codec_kind (codec_kind_of e)

-- the indexes of all these kinds are in the tables
abbrev pub AreThere : IndexLists → List IndexKind → Type 0
AreThere t [] = Unit {0}
AreThere t (kind ∷ kinds) = (has t kind ≡ true) × AreThere t kinds

-- each index that an encoding needs is in the tables
abbrev pub IsReady : IndexLists → Encoding → Type 0
IsReady t e = AreThere t (needs_of e)

-- no index
abbrev pub no_lists : IndexLists
no_lists = record { flats = λ kind. None; rows = None }

-- the indexes of tables, or none if there are no tables
abbrev pub lists_of : Option (Bor IndexLists) → IndexLists
lists_of None = no_lists
lists_of (Some tables) = tables.now

-- What is written for a character reads back as it, or is reported: no two characters have the same bytes. The other
-- encodings have folds, by which a character is written as another.
abbrev pub KeepsCharactersCodecKind : CodecKind → Type 0
KeepsCharactersCodecKind CodecKind.Utf8 = Unit {0}
KeepsCharactersCodecKind (CodecKind.SingleByte kind) = Unit {0}
KeepsCharactersCodecKind CodecKind.UserDefined = Unit {0}
KeepsCharactersCodecKind CodecKind.Big5 = Unit {0}
KeepsCharactersCodecKind CodecKind.EucKr = Unit {0}
KeepsCharactersCodecKind _ = ⊥

-- In the output encoding each character that has bytes reads back as itself: there are no folds.
abbrev pub KeepsCharacters : Encoding → Type 0
KeepsCharacters e = KeepsCharactersCodecKind (codec_kind_of (output_encoding_of e))

-- the pieces of a whole input in an encoding, without mark handling
abbrev pub pieces_of : IndexLists → Encoding → List ℕ → List Piece
pieces_of t e = (codec_of t (codec_kind_of e)).pieces

-- what is written if e is asked for: in its output encoding, which is never UTF-16 or replacement
abbrev pub coding_of : IndexLists → Encoding → Coding
coding_of t e = (codec_of t (codec_kind_of (output_encoding_of e))).coding

-- The pieces of what a codec writes, from where a set is in force: in ISO-2022-JP from the mode of that set.
abbrev pub set_pieces_of_codec_kind : IndexLists → CodecKind → EscapeState → List ℕ → List Piece
set_pieces_of_codec_kind t (CodecKind.Utf16 big_endian) = in_any_set pieces_utf8
set_pieces_of_codec_kind t CodecKind.Replacement = in_any_set pieces_utf8
set_pieces_of_codec_kind t CodecKind.Iso2022Jp = pieces_from_set (index_entries t IndexKind.Jis0208)
set_pieces_of_codec_kind t kind = in_any_set (codec_of t kind).pieces

-- The pieces of what is written in the output encoding, from where a set is in force.
abbrev pub set_pieces_of : IndexLists → Encoding → EscapeState → List ℕ → List Piece
set_pieces_of t e = set_pieces_of_codec_kind t (codec_kind_of (output_encoding_of e))
