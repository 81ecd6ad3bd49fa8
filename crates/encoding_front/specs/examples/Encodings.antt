-- Worked cases of the encodings.
use Rattle.std.specs.Prelude.{◌≡◌, not, true, false, None, Some, [], ◌∷◌, codes, filter, refl, ℕ, ◌+◌, ◌==◌, if◌then◌else◌, List, Option, length, map, replicate}
use Rattle.encoding_tables.specs.declared.index_kind.IndexKind.{IndexKind}
use Rattle.encoding_front.specs.EncodingTable.{encodings, encoding_name}
use Rattle.encoding_front.specs.Encodings.{IsReady, KeepsCharacters, no_lists, is_ascii_compatible_of, is_single_byte_of, mark_at_start, needs_of, output_encoding_of, byte_order_marks, pieces_of, coding_of, set_pieces_of}
use Rattle.encoding_front.specs.calls.CodecBounds.{need_of, decoded_length_of}
use Rattle.encoding_front.specs.declared.encoding.Encoding.{Encoding}
use Rattle.std.specs.Char.{encode_utf8}
use Rattle.encoding_mem.specs.Piece.{well_formed, malformed}
use Rattle.encoding_mem.specs.Pieces.{pieces_in}
use Rattle.encoding_mem.specs.calls.DecodedLength.{queried}
use Rattle.encoding_mem.specs.declared.codec.form.Form.TheVariants.{Mapped, Unmapped}
use Rattle.encoding_mem.specs.declared.codec.form.EscapeState.TheVariants.{Ascii, Roman, Jis}
use Rattle.encoding_mem.specs.declared.codec.room.OutputUnit.TheVariants.{Units, Bytes, Replaced}
use Rattle.encoding_tables.specs.IndexLists.{IndexLists}
use Rattle.encoding_tables.specs.calls.Slots.{slot_of}
use Rattle.encoding_codecs.specs.Iso2022Jp.{pieces_in_mode}
-- Written by tools/generate_encodings.py from tools/encodings.toml; do not edit.
use Rattle.encoding_front.specs.declared.encoding.Encoding.TheVariants.{Big5, EucJp, EucKr, Gb18030, Gbk, Ibm866, Iso2022Jp, Iso8859_2, Iso8859_3, Iso8859_4, Iso8859_5, Iso8859_6, Iso8859_7, Iso8859_8, Iso8859_8I, Iso8859_10, Iso8859_13, Iso8859_14, Iso8859_15, Iso8859_16, Koi8R, Koi8U, Macintosh, Replacement, ShiftJis, Utf8, Utf16Be, Utf16Le, Windows874, Windows1250, Windows1251, Windows1252, Windows1253, Windows1254, Windows1255, Windows1256, Windows1257, Windows1258, XMacCyrillic, XUserDefined}

-- end

windows_1252 : encoding_name Windows1252 ≡ codes "windows-1252"
windows_1252 = refl

shift_jis : encoding_name ShiftJis ≡ codes "Shift_JIS"
shift_jis = refl

not_single_byte : filter (λ (e : Encoding). not (is_single_byte_of e)) encodings ≡ Big5 ∷ EucJp ∷ EucKr ∷ Gb18030 ∷ Gbk ∷ Iso2022Jp ∷ Replacement ∷ ShiftJis ∷ Utf8 ∷ Utf16Be ∷ Utf16Le ∷ []
not_single_byte = refl

not_ascii_compatible : filter (λ (e : Encoding). not (is_ascii_compatible_of e)) encodings ≡ Iso2022Jp ∷ Replacement ∷ Utf16Be ∷ Utf16Le ∷ []
not_ascii_compatible = refl

output_utf_16le : output_encoding_of Utf16Le ≡ Utf8
output_utf_16le = refl

output_replacement : output_encoding_of Replacement ≡ Utf8
output_replacement = refl

output_windows_1252 : output_encoding_of Windows1252 ≡ Windows1252
output_windows_1252 = refl

needs_gbk : needs_of Gbk ≡ IndexKind.Gb18030 ∷ IndexKind.Gb18030Ranges ∷ []
needs_gbk = refl

needs_iso_8859_8_i : needs_of Iso8859_8I ≡ IndexKind.Iso8859_8 ∷ []
needs_iso_8859_8_i = refl

needs_x_user_defined : needs_of XUserDefined ≡ []
needs_x_user_defined = refl

mark_utf_8 : mark_at_start (0xEF ∷ 0xBB ∷ 0xBF ∷ 0x41 ∷ []) ≡ Some (Utf8, 3)
mark_utf_8 = refl

mark_utf_16be : mark_at_start (0xFE ∷ 0xFF ∷ []) ≡ Some (Utf16Be, 2)
mark_utf_16be = refl

mark_utf_16le : mark_at_start (0xFF ∷ 0xFE ∷ 0x00 ∷ 0x00 ∷ []) ≡ Some (Utf16Le, 2)
mark_utf_16le = refl

mark_cut : mark_at_start (0xEF ∷ 0xBB ∷ []) ≡ None
mark_cut = refl

mark_none : mark_at_start (0x41 ∷ 0xEF ∷ 0xBB ∷ 0xBF ∷ []) ≡ None
mark_none = refl

-- the byte order marks of UTF-8, UTF-16BE and UTF-16LE
marks : map (λ (m : Encoding × List ℕ). m.1) byte_order_marks ≡ (0xEF ∷ 0xBB ∷ 0xBF ∷ []) ∷ (0xFE ∷ 0xFF ∷ []) ∷ (0xFF ∷ 0xFE ∷ []) ∷ []
marks = refl

needs_single_byte : map needs_of (Windows1252 ∷ Iso8859_8 ∷ XMacCyrillic ∷ [])
    ≡ (IndexKind.Windows1252 ∷ []) ∷ (IndexKind.Iso8859_8 ∷ []) ∷ (IndexKind.XMacCyrillic ∷ []) ∷ []
needs_single_byte = refl

needs_multi_byte : map needs_of (Big5 ∷ EucJp ∷ EucKr ∷ Gb18030 ∷ ShiftJis ∷ Iso2022Jp ∷ [])
    ≡ (IndexKind.Big5 ∷ []) ∷ (IndexKind.Jis0208 ∷ IndexKind.Jis0212 ∷ []) ∷ (IndexKind.EucKr ∷ []) ∷ (IndexKind.Gb18030 ∷ IndexKind.Gb18030Ranges ∷ []) ∷ (IndexKind.Jis0208 ∷ []) ∷ (IndexKind.Jis0208 ∷ IndexKind.Iso2022JpKatakana ∷ []) ∷ []
needs_multi_byte = refl

needs_nothing : map needs_of (Utf8 ∷ Utf16Be ∷ Utf16Le ∷ Replacement ∷ XUserDefined ∷ []) ≡ replicate 5 []
needs_nothing = refl

-- the most bytes of a step: of UTF-8 and gb18030 4, of ISO-2022-JP 3, an escape, of one byte a character 1, of the others 2
steps : map need_of (Utf8 ∷ Utf16Be ∷ Utf16Le ∷ Replacement ∷ Gb18030 ∷ Iso2022Jp ∷ Windows1252 ∷ XUserDefined ∷ [])
    ≡ 4 ∷ 4 ∷ 4 ∷ 4 ∷ 4 ∷ 3 ∷ 1 ∷ 1 ∷ []
steps = refl

steps_of_two : map need_of (Big5 ∷ EucJp ∷ EucKr ∷ ShiftJis ∷ Gbk ∷ []) ≡ replicate 5 2
steps_of_two = refl

-- the room for 7 bytes, of which some may be pending: in units, in bytes, and in bytes with U+FFFD for malformed sequences
room_for_7 : Encoding → List (Option ℕ)
room_for_7 e = queried (decoded_length_of e) Units 7 ∷ queried (decoded_length_of e) Bytes 7 ∷ queried (decoded_length_of e) Replaced 7 ∷ []

rooms_of_one_byte : map room_for_7 (Windows1252 ∷ XUserDefined ∷ []) ≡ replicate 2 (Some 7 ∷ Some 21 ∷ Some 21 ∷ [])
unfolding room_for_7
rooms_of_one_byte = refl

rooms_of_utf_8 : room_for_7 Utf8 ≡ Some 8 ∷ Some 10 ∷ Some 24 ∷ []
unfolding room_for_7
rooms_of_utf_8 = refl

-- 7 bytes are 4 units at most, and so are 8
rooms_of_utf_16 : map room_for_7 (Utf16Be ∷ Utf16Le ∷ []) ≡ replicate 2 (Some 5 ∷ Some 13 ∷ Some 13 ∷ [])
unfolding room_for_7
rooms_of_utf_16 = refl

room_of_whole_units : queried (decoded_length_of Utf16Le) Bytes 8 ≡ Some 13
room_of_whole_units = refl

rooms_of_replacement : room_for_7 Replacement ≡ Some 1 ∷ Some 3 ∷ Some 3 ∷ []
unfolding room_for_7
rooms_of_replacement = refl

rooms_of_multi_byte : map room_for_7 (Big5 ∷ EucJp ∷ EucKr ∷ Gb18030 ∷ Gbk ∷ Iso2022Jp ∷ ShiftJis ∷ [])
    ≡ replicate 7 (Some 8 ∷ Some 22 ∷ Some 22 ∷ [])
unfolding room_for_7
rooms_of_multi_byte = refl

-- the last rooms that are a usize, and the first that are not: 3n + 1 in Shift_JIS, n + 3 in UTF-8, 3(n / 2) + 1 in UTF-16
usize_of_shift_jis : map (queried (decoded_length_of ShiftJis) Bytes) (0x5555555555555554 ∷ 0x5555555555555555 ∷ [])
    ≡ Some 0xFFFFFFFFFFFFFFFD ∷ None ∷ []
usize_of_shift_jis = refl

usize_of_utf_8 : map (queried (decoded_length_of Utf8) Bytes) (0xFFFFFFFFFFFFFFFC ∷ 0xFFFFFFFFFFFFFFFD ∷ []) ≡ Some 0xFFFFFFFFFFFFFFFF ∷ None ∷ []
usize_of_utf_8 = refl

usize_of_utf_16 : map (queried (decoded_length_of Utf16Le) Units) (0xFFFFFFFFFFFFFFFE ∷ 0xFFFFFFFFFFFFFFFF ∷ []) ≡ Some 0x8000000000000000 ∷ None ∷ []
usize_of_utf_16 = refl

-- each single-byte encoding with the scalar value at the pointer 0 of its own index, as the tables below have it
-- Written by tools/generate_encodings.py from tools/encodings.toml; do not edit.
unfoldable own_index : List (Encoding × ℕ)
own_index = (Ibm866, 0x100) ∷ (Iso8859_2, 0x101) ∷ (Iso8859_3, 0x102) ∷ (Iso8859_4, 0x103) ∷ (Iso8859_5, 0x104) ∷ (Iso8859_6, 0x105) ∷ (Iso8859_7, 0x106) ∷ (Iso8859_8, 0x107) ∷ (Iso8859_8I, 0x107) ∷ (Iso8859_10, 0x108) ∷ (Iso8859_13, 0x109) ∷ (Iso8859_14, 0x10A) ∷ (Iso8859_15, 0x10B) ∷ (Iso8859_16, 0x10C) ∷ (Koi8R, 0x10D) ∷ (Koi8U, 0x10E) ∷ (Macintosh, 0x10F) ∷ (Windows874, 0x110) ∷ (Windows1250, 0x111) ∷ (Windows1251, 0x112) ∷ (Windows1252, 0x113) ∷ (Windows1253, 0x114) ∷ (Windows1254, 0x115) ∷ (Windows1255, 0x116) ∷ (Windows1256, 0x117) ∷ (Windows1257, 0x118) ∷ (Windows1258, 0x119) ∷ (XMacCyrillic, 0x11A) ∷ []

-- end

-- Tables for examples: the index in slot k has U+0100 + k at the pointer 0; that of jis0208 has beside it what the
-- katakana have, and the ranges begin with U+0080.
list_of : IndexKind → Option (List ℕ)
list_of kind = Some ((0x100 + slot_of kind) ∷ (if slot_of kind == slot_of IndexKind.Jis0208 then 0x121 else 0) ∷ [])

unfoldable tables : IndexLists
tables = record { flats = list_of; rows = Some ((0, 0x80) ∷ []) }

-- each single-byte encoding reads and writes its own index by 80, ISO-8859-8-I that of ISO-8859-8
reads_own_index : map (λ (r : Encoding × ℕ). pieces_of tables r.0 (0x80 ∷ [])) own_index
    ≡ map (λ (r : Encoding × ℕ). well_formed 1 (r.1 ∷ []) ∷ []) own_index
unfolding tables list_of own_index pieces_in
reads_own_index = refl

writes_own_index : map (λ (r : Encoding × ℕ). (coding_of tables r.0).form r.1) own_index ≡ replicate (length own_index) (Mapped (0x80 ∷ []))
unfolding tables list_of own_index
writes_own_index = refl

-- the pointer 0 of the index of each other encoding
reads_big5 : pieces_of tables Big5 (0x81 ∷ 0x40 ∷ []) ≡ well_formed 2 (0x11B ∷ []) ∷ []
unfolding tables list_of pieces_in
reads_big5 = refl

reads_euc_kr : pieces_of tables EucKr (0x81 ∷ 0x41 ∷ []) ≡ well_formed 2 (0x11C ∷ []) ∷ []
unfolding tables list_of pieces_in
reads_euc_kr = refl

reads_gb18030 : map (λ e. pieces_of tables e (0x81 ∷ 0x40 ∷ 0x81 ∷ 0x30 ∷ 0x81 ∷ 0x30 ∷ [])) (Gb18030 ∷ Gbk ∷ [])
    ≡ replicate 2 (well_formed 2 (0x11D ∷ []) ∷ well_formed 4 (0x80 ∷ []) ∷ [])
unfolding tables list_of pieces_in
reads_gb18030 = refl

reads_euc_jp : pieces_of tables EucJp (0xA1 ∷ 0xA1 ∷ 0x8F ∷ 0xA1 ∷ 0xA1 ∷ []) ≡ well_formed 2 (0x11F ∷ []) ∷ well_formed 3 (0x120 ∷ []) ∷ []
unfolding tables list_of pieces_in
reads_euc_jp = refl

reads_shift_jis : pieces_of tables ShiftJis (0x81 ∷ 0x40 ∷ []) ≡ well_formed 2 (0x11F ∷ []) ∷ []
unfolding tables list_of pieces_in
reads_shift_jis = refl

reads_iso_2022_jp : pieces_of tables Iso2022Jp (0x1B ∷ 0x24 ∷ 0x42 ∷ 0x21 ∷ 0x21 ∷ []) ≡ well_formed 3 [] ∷ well_formed 2 (0x11F ∷ []) ∷ []
unfolding tables list_of pieces_in_mode pieces_in
reads_iso_2022_jp = refl

reads_utf_8 : pieces_of tables Utf8 (0xC3 ∷ 0xA9 ∷ 0x80 ∷ []) ≡ well_formed 2 (0xE9 ∷ []) ∷ malformed 1 ∷ []
unfolding pieces_in
reads_utf_8 = refl

reads_utf_16 : (pieces_of tables Utf16Be (0x4E ∷ 0x00 ∷ 0x80 ∷ []) ≡ well_formed 2 (0x4E00 ∷ []) ∷ malformed 1 ∷ [])
    × (pieces_of tables Utf16Le (0x00 ∷ 0x4E ∷ 0x80 ∷ []) ≡ well_formed 2 (0x4E00 ∷ []) ∷ malformed 1 ∷ [])
unfolding pieces_in
reads_utf_16 = (refl, refl)

reads_user_defined : pieces_of tables XUserDefined (0x7F ∷ 0x80 ∷ 0xFF ∷ []) ≡ well_formed 1 (0x7F ∷ []) ∷ well_formed 1 (0xF780 ∷ []) ∷ well_formed 1 (0xF7FF ∷ []) ∷ []
unfolding pieces_in
reads_user_defined = refl

reads_replacement : pieces_of tables Replacement (0x41 ∷ 0x42 ∷ []) ≡ malformed 1 ∷ well_formed 1 [] ∷ []
reads_replacement = refl

-- what is written for the same scalar values; jis0212 is never written, nor what stands below 5024 in Big5
writes_multi_byte : map (λ (r : Encoding × ℕ). (coding_of tables r.0).form r.1) ((Big5, 0x11B) ∷ (EucKr, 0x11C) ∷ (Gb18030, 0x11D) ∷ (Gbk, 0x11D) ∷ (EucJp, 0x11F) ∷ (EucJp, 0x120) ∷ (ShiftJis, 0x11F) ∷ (Iso2022Jp, 0x11F) ∷ (Iso2022Jp, 0xFF61) ∷ [])
    ≡ Unmapped 0x11B ∷ Mapped (0x81 ∷ 0x41 ∷ []) ∷ Mapped (0x81 ∷ 0x40 ∷ []) ∷ Mapped (0x81 ∷ 0x40 ∷ []) ∷ Mapped (0xA1 ∷ 0xA1 ∷ []) ∷ Unmapped 0x120 ∷ Mapped (0x81 ∷ 0x40 ∷ []) ∷ Mapped (0x21 ∷ 0x21 ∷ []) ∷ Mapped (0x21 ∷ 0x22 ∷ []) ∷ []
unfolding tables list_of
writes_multi_byte = refl

-- gb18030 alone has forms of four bytes, here of the pointers 0 and 8236, and GBK alone a byte of U+20AC
writes_gb18030 : (map (coding_of tables Gb18030).form (0x80 ∷ 0x20AC ∷ []) ≡ Mapped (0x81 ∷ 0x30 ∷ 0x81 ∷ 0x30 ∷ []) ∷ Mapped (0x81 ∷ 0x36 ∷ 0xC4 ∷ 0x36 ∷ []) ∷ [])
    × (map (coding_of tables Gbk).form (0x80 ∷ 0x20AC ∷ []) ≡ Unmapped 0x80 ∷ Mapped (0x80 ∷ []) ∷ [])
unfolding tables list_of
writes_gb18030 = (refl, refl)

-- UTF-16 and replacement are written as UTF-8
writes_utf_8 : map (λ e. (coding_of tables e).form 0xE9) (Utf8 ∷ Utf16Be ∷ Utf16Le ∷ Replacement ∷ []) ≡ replicate 4 (Mapped (0xC3 ∷ 0xA9 ∷ []))
unfolding encode_utf8
writes_utf_8 = refl

writes_user_defined : map (coding_of tables XUserDefined).form (0x7F ∷ 0x80 ∷ 0xF77F ∷ 0xF780 ∷ 0xF7FF ∷ 0xF800 ∷ [])
    ≡ Mapped (0x7F ∷ []) ∷ Unmapped 0x80 ∷ Unmapped 0xF77F ∷ Mapped (0x80 ∷ []) ∷ Mapped (0xFF ∷ []) ∷ Unmapped 0xF800 ∷ []
writes_user_defined = refl

-- What is written is read from the set in force: 5C in ASCII, in Roman and in JIS, where it is half a character. The
-- other encodings have one set, and UTF-16 is read as the UTF-8 that is written for it.
reads_from_sets : map (λ s. set_pieces_of tables Iso2022Jp s (0x5C ∷ [])) (Ascii ∷ Roman ∷ Jis ∷ [])
    ≡ (well_formed 1 (0x5C ∷ []) ∷ []) ∷ (well_formed 1 (0xA5 ∷ []) ∷ []) ∷ (malformed 1 ∷ []) ∷ []
unfolding pieces_in_mode pieces_in
reads_from_sets = refl

reads_pair_from_jis : set_pieces_of tables Iso2022Jp Jis (0x21 ∷ 0x21 ∷ []) ≡ well_formed 2 (0x11F ∷ []) ∷ []
unfolding pieces_in_mode pieces_in tables list_of
reads_pair_from_jis = refl

reads_from_one_set : map (λ e. set_pieces_of tables e Jis (0xC3 ∷ 0xA9 ∷ [])) (Utf8 ∷ Utf16Be ∷ Utf16Le ∷ Replacement ∷ []) ≡ replicate 4 (well_formed 2 (0xE9 ∷ []) ∷ [])
unfolding pieces_in
reads_from_one_set = refl

reads_user_defined_from_set : set_pieces_of tables XUserDefined Roman (0x80 ∷ []) ≡ well_formed 1 (0xF780 ∷ []) ∷ []
unfolding pieces_in
reads_user_defined_from_set = refl

-- An encoding is not ready without its index, and one with folds does not keep its characters: both are refuted.
no_index_is_not_ready : IsReady no_lists Windows1252 → ⊥
no_index_is_not_ready ready = let there : false ≡ true = ready.0 in cc

shift_jis_has_folds : KeepsCharacters ShiftJis → ⊥
shift_jis_has_folds keeps = keeps
