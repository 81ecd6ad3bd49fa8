-- The files of the indexes (the Encoding Standard, section 5, "Indexes"): each is published as `index-NAME.txt`.
use Rattle.std.specs.Prelude.{◌≡◌, ℕ, List, ◌++◌, codes}
use Rattle.encoding_tables.specs.declared.index_kind.IndexKind.{IndexKind}
-- Written by tools/generate_encodings.py from tools/encodings.toml; do not edit.
use Rattle.encoding_tables.specs.declared.index_kind.IndexKind.TheVariants.{Ibm866, Iso8859_2, Iso8859_3, Iso8859_4, Iso8859_5, Iso8859_6, Iso8859_7, Iso8859_8, Iso8859_10, Iso8859_13, Iso8859_14, Iso8859_15, Iso8859_16, Koi8R, Koi8U, Macintosh, Windows874, Windows1250, Windows1251, Windows1252, Windows1253, Windows1254, Windows1255, Windows1256, Windows1257, Windows1258, XMacCyrillic, Big5, EucKr, Gb18030, Gb18030Ranges, Jis0208, Jis0212, Iso2022JpKatakana}

-- end

-- the name of an index, as the standard writes it in the name of the index's file
abbrev pub index_name : IndexKind → List ℕ
index_name Ibm866 = codes "ibm866"
index_name Iso8859_2 = codes "iso-8859-2"
index_name Iso8859_3 = codes "iso-8859-3"
index_name Iso8859_4 = codes "iso-8859-4"
index_name Iso8859_5 = codes "iso-8859-5"
index_name Iso8859_6 = codes "iso-8859-6"
index_name Iso8859_7 = codes "iso-8859-7"
index_name Iso8859_8 = codes "iso-8859-8"
index_name Iso8859_10 = codes "iso-8859-10"
index_name Iso8859_13 = codes "iso-8859-13"
index_name Iso8859_14 = codes "iso-8859-14"
index_name Iso8859_15 = codes "iso-8859-15"
index_name Iso8859_16 = codes "iso-8859-16"
index_name Koi8R = codes "koi8-r"
index_name Koi8U = codes "koi8-u"
index_name Macintosh = codes "macintosh"
index_name Windows874 = codes "windows-874"
index_name Windows1250 = codes "windows-1250"
index_name Windows1251 = codes "windows-1251"
index_name Windows1252 = codes "windows-1252"
index_name Windows1253 = codes "windows-1253"
index_name Windows1254 = codes "windows-1254"
index_name Windows1255 = codes "windows-1255"
index_name Windows1256 = codes "windows-1256"
index_name Windows1257 = codes "windows-1257"
index_name Windows1258 = codes "windows-1258"
index_name XMacCyrillic = codes "x-mac-cyrillic"
index_name Big5 = codes "big5"
index_name EucKr = codes "euc-kr"
index_name Gb18030 = codes "gb18030"
index_name Gb18030Ranges = codes "gb18030-ranges"
index_name Jis0208 = codes "jis0208"
index_name Jis0212 = codes "jis0212"
index_name Iso2022JpKatakana = codes "iso-2022-jp-katakana"

-- the name of the file of an index: `index-NAME.txt`
abbrev pub file_name_of : IndexKind → List ℕ
file_name_of kind = codes "index-" ++ (index_name kind ++ codes ".txt")

-- no two kinds of index have one file name
abbrev pub FileNamesDiffer : Type 0
FileNamesDiffer = (a b : IndexKind) → file_name_of a ≡ file_name_of b → a ≡ b
