-- What holds of every encoding.
use Rattle.std.proofs.Common.{◌≡◌, ℕ, List, refl, subst, ap, ◌∙◌}
use Rattle.encoding_mem.specs.Agreement.{ReadsBackOrBreaks, ReadsByStep}
use Rattle.encoding_mem.specs.Piece.{ArePieces}
use Rattle.encoding_mem.specs.laws.Pieces.{pieces_by-are_pieces}
use Rattle.encoding_mem.specs.ReadBack.{ReadsBackExactly}
use Rattle.encoding_mem.specs.Stateless.{HasOneSet}
use Rattle.encoding_mem.specs.Steps.{StepLaw, in_any_set}
use Rattle.encoding_mem.specs.laws.Agreement.{reads_back_or_breaks}
use Rattle.encoding_mem.specs.laws.OneSet.{utf8_by_step}
use Rattle.encoding_mem.specs.laws.ReadBack.{utf8_exact}
use Rattle.encoding_mem.specs.declared.codec.form.EscapeState.{EscapeState}
use Rattle.encoding_mem.specs.declared.codec.form.EscapeState.TheVariants.{Ascii}
use Rattle.encoding_mem.specs.Utf8.{first_piece_utf8, pieces_utf8}
use Rattle.encoding_mem.specs.Utf8Coding.{utf8_coding}
use Rattle.encoding_mem.specs.laws.Utf8.{cuts_utf8}
use Rattle.encoding_tables.specs.IndexLists.{IndexLists, AreAcceptedTables, index_entries, range_rows}
use Rattle.encoding_tables.specs.laws.SingleByteReadBack.{single_byte_by_step}
use Rattle.encoding_tables.specs.laws.SingleByteTables.{entries_scalars, tables_are_pieces, tables_exact}
use Rattle.encoding_tables.specs.laws.Replacement.{replacement_are_pieces}
use Rattle.encoding_tables.specs.laws.UserDefined.{cuts_user_defined, user_defined_by_step, user_defined_exact, first_piece_user_defined}
use Rattle.encoding_tables.specs.Utf16.{first_piece_utf16}
use Rattle.encoding_tables.specs.laws.Utf16.{cuts_utf16}
use Rattle.encoding_codecs.specs.laws.CodecTables.{euc_kr_are_pieces, big5_are_pieces, euc_jp_are_pieces, shift_jis_are_pieces, iso_2022_jp_tables_are_pieces, euc_kr_tables_exact, big5_tables_exact}
use Rattle.encoding_codecs.specs.laws.Gb18030Tables.{gb18030_are_pieces, gb18030_tables}
use Rattle.encoding_codecs.specs.laws.Big5.{big5_by_step}
use Rattle.encoding_codecs.specs.laws.CodecSteps.{shift_jis_by_step, euc_jp_by_step, gb18030_by_step}
use Rattle.encoding_codecs.specs.laws.EucKr.{euc_kr_by_step}
use Rattle.encoding_codecs.specs.laws.Iso2022JpSteps.{iso_2022_jp_by_step}
use Rattle.encoding_tables.specs.declared.index_kind.IndexKind.{IndexKind}
use Rattle.encoding_front.specs.Encodings.{IsUtf8Encoding, KeepsCharacters, KeepsCharactersCodecKind, pieces_of, coding_of, output_encoding_of, output_of_codec_kind, set_pieces_of, set_pieces_of_codec_kind}
use Rattle.encoding_front.specs.EncodingTable.{codec_kind_of}
use Rattle.encoding_front.specs.declared.encoding.Encoding.{Encoding}
use Rattle.encoding_front.specs.declared.codec_kind.CodecKind.{CodecKind}
use Rattle.encoding_front.specs.Codecs.{codec_of}

-- of UTF-8
pub pieces_of_utf8 : (t : IndexLists) (e : Encoding) → IsUtf8Encoding e → pieces_of t e ≡ pieces_utf8
pieces_of_utf8 t e h = ap (λ (k : CodecKind). (codec_of t k).pieces) h

pub coding_of_utf8 : (t : IndexLists) (e : Encoding) → IsUtf8Encoding e → coding_of t e ≡ utf8_coding
coding_of_utf8 t e h = ap (λ s. (codec_of t (codec_kind_of (output_of_codec_kind e s))).coding) h ∙ ap (λ (k : CodecKind). (codec_of t k).coding) h

-- the pieces of bytes are pieces
are_pieces_in : (t : IndexLists) (s : CodecKind) → AreAcceptedTables t → (x : List ℕ) → ArePieces ((codec_of t s).pieces x)
are_pieces_in t CodecKind.Utf8 taken x = pieces_by-are_pieces first_piece_utf8 cuts_utf8 x
are_pieces_in t (CodecKind.SingleByte kind) taken x = tables_are_pieces t kind taken x
are_pieces_in t CodecKind.Big5 taken x = big5_are_pieces t taken x
are_pieces_in t CodecKind.EucKr taken x = euc_kr_are_pieces t taken x
are_pieces_in t CodecKind.EucJp taken x = euc_jp_are_pieces t taken x
are_pieces_in t CodecKind.ShiftJis taken x = shift_jis_are_pieces t taken x
are_pieces_in t (CodecKind.Gb18030 extended) taken x = gb18030_are_pieces t taken x
are_pieces_in t CodecKind.Iso2022Jp taken x = iso_2022_jp_tables_are_pieces t taken x
are_pieces_in t CodecKind.UserDefined taken x = pieces_by-are_pieces first_piece_user_defined cuts_user_defined x
are_pieces_in t (CodecKind.Utf16 big_endian) taken x = pieces_by-are_pieces (first_piece_utf16 big_endian) (cuts_utf16 big_endian) x
are_pieces_in t CodecKind.Replacement taken x = replacement_are_pieces x

pub are_pieces_of : (t : IndexLists) (e : Encoding) → AreAcceptedTables t → (x : List ℕ) → ArePieces (pieces_of t e x)
are_pieces_of t e taken x = are_pieces_in t (codec_kind_of e) taken x

-- what is written for a text reads back as that text exactly when each scalar of it has bytes
exact_in : (t : IndexLists) (s : CodecKind) → KeepsCharactersCodecKind s → AreAcceptedTables t → ReadsBackExactly (codec_of t s).pieces (codec_of t s).coding
exact_in t CodecKind.Utf8 kept taken = utf8_exact
exact_in t (CodecKind.SingleByte kind) kept taken = tables_exact t kind taken
exact_in t CodecKind.UserDefined kept taken = user_defined_exact
exact_in t CodecKind.Big5 kept taken = big5_tables_exact t taken
exact_in t CodecKind.EucKr kept taken = euc_kr_tables_exact t taken
exact_in t CodecKind.EucJp kept taken = absurd kept
exact_in t CodecKind.ShiftJis kept taken = absurd kept
exact_in t (CodecKind.Gb18030 extended) kept taken = absurd kept
exact_in t CodecKind.Iso2022Jp kept taken = absurd kept
exact_in t (CodecKind.Utf16 big_endian) kept taken = absurd kept
exact_in t CodecKind.Replacement kept taken = absurd kept

pub reads_back_exactly : (t : IndexLists) (e : Encoding) → KeepsCharacters e → AreAcceptedTables t → ReadsBackExactly (pieces_of t (output_encoding_of e)) (coding_of t e)
reads_back_exactly t e kept taken = exact_in t (codec_kind_of (output_encoding_of e)) kept taken

-- What is written in an output encoding reads back step by step.
by_step_in : (t : IndexLists) (s : CodecKind) → AreAcceptedTables t → ReadsByStep (codec_of t s).coding (set_pieces_of_codec_kind t s)
by_step_in t CodecKind.Utf8 taken = utf8_by_step
by_step_in t (CodecKind.SingleByte kind) taken = single_byte_by_step (index_entries t kind) (entries_scalars t kind taken)
by_step_in t CodecKind.UserDefined taken = user_defined_by_step
by_step_in t CodecKind.Big5 taken = big5_by_step (index_entries t IndexKind.Big5) (entries_scalars t IndexKind.Big5 taken)
by_step_in t CodecKind.EucKr taken = euc_kr_by_step (index_entries t IndexKind.EucKr) (entries_scalars t IndexKind.EucKr taken)
by_step_in t CodecKind.EucJp taken =
    euc_jp_by_step (index_entries t IndexKind.Jis0208) (index_entries t IndexKind.Jis0212) (entries_scalars t IndexKind.Jis0208 taken) (entries_scalars t IndexKind.Jis0212 taken)
by_step_in t CodecKind.ShiftJis taken = shift_jis_by_step (index_entries t IndexKind.Jis0208) (entries_scalars t IndexKind.Jis0208 taken)
by_step_in t (CodecKind.Gb18030 extended) taken = gb18030_by_step (index_entries t IndexKind.Gb18030) (range_rows t) extended (gb18030_tables t taken)
by_step_in t CodecKind.Iso2022Jp taken =
    iso_2022_jp_by_step (index_entries t IndexKind.Jis0208) (index_entries t IndexKind.Iso2022JpKatakana) (entries_scalars t IndexKind.Jis0208 taken)
by_step_in t (CodecKind.Utf16 big_endian) taken = utf8_by_step
by_step_in t CodecKind.Replacement taken = utf8_by_step

pub reads_by_step : (t : IndexLists) (e : Encoding) → AreAcceptedTables t → ReadsByStep (coding_of t e) (set_pieces_of t e)
reads_by_step t e taken = by_step_in t (codec_kind_of (output_encoding_of e)) taken

-- from the start it is read as any bytes are
pub set_pieces_at_start : (t : IndexLists) (e : Encoding) → set_pieces_of t e Ascii ≡ pieces_of t (output_encoding_of e)
set_pieces_at_start t Encoding.Big5 = refl
set_pieces_at_start t _ = refl

-- and if no two characters have the same bytes, also from any other set
set_pieces_in : (t : IndexLists) (s : CodecKind) → KeepsCharactersCodecKind s → (set : EscapeState) → set_pieces_of_codec_kind t s set ≡ (codec_of t s).pieces
set_pieces_in t CodecKind.Utf8 kept set = refl
set_pieces_in t (CodecKind.SingleByte kind) kept set = refl
set_pieces_in t CodecKind.UserDefined kept set = refl
set_pieces_in t CodecKind.Big5 kept set = refl
set_pieces_in t CodecKind.EucKr kept set = refl
set_pieces_in t CodecKind.EucJp kept set = absurd kept
set_pieces_in t CodecKind.ShiftJis kept set = absurd kept
set_pieces_in t (CodecKind.Gb18030 extended) kept set = absurd kept
set_pieces_in t CodecKind.Iso2022Jp kept set = absurd kept
set_pieces_in t (CodecKind.Utf16 big_endian) kept set = absurd kept
set_pieces_in t CodecKind.Replacement kept set = absurd kept

pub set_pieces_anywhere : (t : IndexLists) (e : Encoding) → KeepsCharacters e → (set : EscapeState) → set_pieces_of t e set ≡ pieces_of t (output_encoding_of e)
set_pieces_anywhere t e kept set = set_pieces_in t (codec_kind_of (output_encoding_of e)) kept set

-- so it agrees with its text or is broken
pub agrees_or_breaks : (t : IndexLists) (e : Encoding) → AreAcceptedTables t → ReadsBackOrBreaks (pieces_of t (output_encoding_of e)) (coding_of t e)
agrees_or_breaks t e taken =
    subst (λ pieces. ReadsBackOrBreaks pieces (coding_of t e)) (set_pieces_at_start t e) (reads_back_or_breaks (coding_of t e) (set_pieces_of t e) (reads_by_step t e taken))

-- if no two characters have the same bytes, there is one set
one_set_in : (t : IndexLists) (s : CodecKind) → KeepsCharactersCodecKind s → HasOneSet (codec_of t s).coding
one_set_in t CodecKind.Utf8 kept = record { set = λ s c. refl; escape = λ s s'. refl }
one_set_in t (CodecKind.SingleByte kind) kept = record { set = λ s c. refl; escape = λ s s'. refl }
one_set_in t CodecKind.UserDefined kept = record { set = λ s c. refl; escape = λ s s'. refl }
one_set_in t CodecKind.Big5 kept = record { set = λ s c. refl; escape = λ s s'. refl }
one_set_in t CodecKind.EucKr kept = record { set = λ s c. refl; escape = λ s s'. refl }
one_set_in t CodecKind.EucJp kept = absurd kept
one_set_in t CodecKind.ShiftJis kept = absurd kept
one_set_in t (CodecKind.Gb18030 extended) kept = absurd kept
one_set_in t CodecKind.Iso2022Jp kept = absurd kept
one_set_in t (CodecKind.Utf16 big_endian) kept = absurd kept
one_set_in t CodecKind.Replacement kept = absurd kept

pub one_set_of : (t : IndexLists) (e : Encoding) → KeepsCharacters e → HasOneSet (coding_of t e)
one_set_of t e kept = one_set_in t (codec_kind_of (output_encoding_of e)) kept

step_law_in : (t : IndexLists) (s : CodecKind) → KeepsCharactersCodecKind s → AreAcceptedTables t → StepLaw (codec_of t s).coding (in_any_set (codec_of t s).pieces)
step_law_in t CodecKind.Utf8 kept taken = (by_step_in t CodecKind.Utf8 taken).steps
step_law_in t (CodecKind.SingleByte kind) kept taken = (by_step_in t (CodecKind.SingleByte kind) taken).steps
step_law_in t CodecKind.UserDefined kept taken = (by_step_in t CodecKind.UserDefined taken).steps
step_law_in t CodecKind.Big5 kept taken = (by_step_in t CodecKind.Big5 taken).steps
step_law_in t CodecKind.EucKr kept taken = (by_step_in t CodecKind.EucKr taken).steps
step_law_in t CodecKind.EucJp kept taken = absurd kept
step_law_in t CodecKind.ShiftJis kept taken = absurd kept
step_law_in t (CodecKind.Gb18030 extended) kept taken = absurd kept
step_law_in t CodecKind.Iso2022Jp kept taken = absurd kept
step_law_in t (CodecKind.Utf16 big_endian) kept taken = absurd kept
step_law_in t CodecKind.Replacement kept taken = absurd kept

pub step_law_of : (t : IndexLists) (e : Encoding) → KeepsCharacters e → AreAcceptedTables t → StepLaw (coding_of t e) (in_any_set (pieces_of t (output_encoding_of e)))
step_law_of t e kept taken = step_law_in t (codec_kind_of (output_encoding_of e)) kept taken
