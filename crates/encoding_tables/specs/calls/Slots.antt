-- The slots in which tables keep the lists of the indexes.
use Rattle.std.specs.Prelude.{ℕ, List, Option, None, slice_index_or}
use Rattle.encoding_tables.specs.IndexLists.{IndexLists}
use Rattle.encoding_tables.specs.declared.index_kind.IndexKind.{IndexKind}
-- Written by tools/generate_encodings.py from tools/encodings.toml; do not edit.
use Rattle.encoding_tables.specs.declared.index_kind.IndexKind.TheVariants.{Ibm866, Iso8859_2, Iso8859_3, Iso8859_4, Iso8859_5, Iso8859_6, Iso8859_7, Iso8859_8, Iso8859_10, Iso8859_13, Iso8859_14, Iso8859_15, Iso8859_16, Koi8R, Koi8U, Macintosh, Windows874, Windows1250, Windows1251, Windows1252, Windows1253, Windows1254, Windows1255, Windows1256, Windows1257, Windows1258, XMacCyrillic, Big5, EucKr, Gb18030, Gb18030Ranges, Jis0208, Jis0212, Iso2022JpKatakana}

-- end

-- the slot of a kind of index: its place among the 34 kinds, from 0
abbrev pub slot_of : IndexKind → ℕ
-- Written by tools/generate_encodings.py from tools/encodings.toml; do not edit.
slot_of Ibm866 = 0
slot_of Iso8859_2 = 1
slot_of Iso8859_3 = 2
slot_of Iso8859_4 = 3
slot_of Iso8859_5 = 4
slot_of Iso8859_6 = 5
slot_of Iso8859_7 = 6
slot_of Iso8859_8 = 7
slot_of Iso8859_10 = 8
slot_of Iso8859_13 = 9
slot_of Iso8859_14 = 10
slot_of Iso8859_15 = 11
slot_of Iso8859_16 = 12
slot_of Koi8R = 13
slot_of Koi8U = 14
slot_of Macintosh = 15
slot_of Windows874 = 16
slot_of Windows1250 = 17
slot_of Windows1251 = 18
slot_of Windows1252 = 19
slot_of Windows1253 = 20
slot_of Windows1254 = 21
slot_of Windows1255 = 22
slot_of Windows1256 = 23
slot_of Windows1257 = 24
slot_of Windows1258 = 25
slot_of XMacCyrillic = 26
slot_of Big5 = 27
slot_of EucKr = 28
slot_of Gb18030 = 29
slot_of Gb18030Ranges = 30
slot_of Jis0208 = 31
slot_of Jis0212 = 32
slot_of Iso2022JpKatakana = 33

-- end

-- the list of a kind among slots, if it is there
abbrev pub flat_in : List (Option (List ℕ)) → IndexKind → Option (List ℕ)
flat_in slots kind = slice_index_or slots (slot_of kind) None

-- what tables with these slots and rows hold
abbrev pub lists_in : List (Option (List ℕ)) → Option (List (ℕ × ℕ)) → IndexLists
lists_in slots rows = record { flats = flat_in slots; rows = rows }
