-- Worked rows of `specs/Fates.antt`.
use Rattle.std.specs.Prelude.{◌≡◌, Some, None, [], ◌∷◌, refl, map}
use Rattle.std.specs.Char.{encode_utf8}
use Rattle.encoding_mem.specs.Piece.{malformed, well_formed}
use Rattle.encoding_mem.specs.Pieces.{pieces_in}
use Rattle.encoding_codecs.specs.Iso2022Jp.{pieces_in_mode}
use Rattle.encoding_tables.specs.examples.IndexLists.{no_flats}
use Rattle.encoding_front.specs.declared.encoding.Encoding.{Encoding}
use Rattle.encoding_front.specs.declared.encoding.Encoding.TheVariants.{Iso2022Jp, ShiftJis, Utf16Le, XUserDefined}
use Rattle.recode_places.specs.Fates.{Target, fate_of, fate_read_back, read_alone}
use Rattle.recode_places.specs.declared.fates.Fate.TheVariants.{Folded, Kept, Lost}

-- an encoding without indexes
abbrev in_encoding : Encoding → Target
in_encoding e = record { tables = record { flats = no_flats; rows = None }; encoding = e }

-- in Shift_JIS `a` is kept, the yen sign is written as a backslash, and U+65E5 is lost without an index
of_shift_jis : map (fate_of (in_encoding ShiftJis)) (0x61 ∷ 0xA5 ∷ 0x65E5 ∷ []) ≡ Kept ∷ Folded (Some 0x5C) ∷ Lost ∷ []
unfolding fate_of pieces_in
of_shift_jis = refl

-- in ISO-2022-JP the yen sign is kept, and an escape is lost
of_iso_2022_jp : map (fate_of (in_encoding Iso2022Jp)) (0xA5 ∷ 0x1B ∷ []) ≡ Kept ∷ Lost ∷ []
unfolding fate_of pieces_in pieces_in_mode
of_iso_2022_jp = refl

-- UTF-16 is written as UTF-8
of_utf_16 : map (fate_of (in_encoding Utf16Le)) (0x65E5 ∷ 0x10FFFF ∷ []) ≡ Kept ∷ Kept ∷ []
unfolding fate_of pieces_in encode_utf8
of_utf_16 = refl

of_user_defined : map (fate_of (in_encoding XUserDefined)) (0xF780 ∷ 0x3A9 ∷ []) ≡ Kept ∷ Lost ∷ []
unfolding fate_of pieces_in
of_user_defined = refl

-- what is malformed, or two characters, or none, reads back as no single one
of_no_character : map read_alone ((malformed 1 ∷ []) ∷ (well_formed 2 (0xCA ∷ 0x304 ∷ []) ∷ []) ∷ (well_formed 3 [] ∷ []) ∷ []) ≡ None ∷ None ∷ None ∷ []
of_no_character = refl

of_none : fate_read_back 0xCA None ≡ Folded None
of_none = refl

-- refuted: the yen sign, which Shift_JIS writes as a backslash, is kept there
of_fold_as_kept : fate_of (in_encoding ShiftJis) 0xA5 ≡ Kept → ⊥
unfolding fate_of pieces_in
of_fold_as_kept e = cc

-- refuted: a character is kept whose bytes read back as two
of_two_as_kept : fate_read_back 0xCA (read_alone (well_formed 2 (0xCA ∷ 0x304 ∷ []) ∷ [])) ≡ Kept → ⊥
of_two_as_kept e = cc
