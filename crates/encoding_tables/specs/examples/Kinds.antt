-- Worked rows of `specs/Kinds.antt`: the indexes of the Encoding Standard, section 5.
use Rattle.std.specs.Prelude.{◌≡◌, List, [], ◌∷◌, ◌++◌, filter, length, map, replicate, refl}
use Rattle.encoding_tables.specs.declared.index_kind.IndexKind.{IndexKind}
use Rattle.encoding_tables.specs.Kinds.{index_size, is_big5, is_ranges, is_single_byte_kind}
-- Written by tools/generate_encodings.py from tools/encodings.toml; do not edit.
use Rattle.encoding_tables.specs.declared.index_kind.IndexKind.TheVariants.{Ibm866, Iso8859_2, Iso8859_3, Iso8859_4, Iso8859_5, Iso8859_6, Iso8859_7, Iso8859_8, Iso8859_10, Iso8859_13, Iso8859_14, Iso8859_15, Iso8859_16, Koi8R, Koi8U, Macintosh, Windows874, Windows1250, Windows1251, Windows1252, Windows1253, Windows1254, Windows1255, Windows1256, Windows1257, Windows1258, XMacCyrillic, Big5, EucKr, Gb18030, Gb18030Ranges, Jis0208, Jis0212, Iso2022JpKatakana}

-- end

-- those of the single-byte encodings, and the others
-- Written by tools/generate_encodings.py from tools/encodings.toml; do not edit.
abbrev single_byte_kinds : List IndexKind
single_byte_kinds = Ibm866 ∷ Iso8859_2 ∷ Iso8859_3 ∷ Iso8859_4 ∷ Iso8859_5 ∷ Iso8859_6 ∷ Iso8859_7 ∷ Iso8859_8 ∷ Iso8859_10 ∷ Iso8859_13 ∷ Iso8859_14 ∷ Iso8859_15 ∷ Iso8859_16 ∷ Koi8R ∷ Koi8U ∷ Macintosh ∷ Windows874 ∷ Windows1250 ∷ Windows1251 ∷ Windows1252 ∷ Windows1253 ∷ Windows1254 ∷ Windows1255 ∷ Windows1256 ∷ Windows1257 ∷ Windows1258 ∷ XMacCyrillic ∷ []

abbrev other_kinds : List IndexKind
other_kinds = Big5 ∷ EucKr ∷ Gb18030 ∷ Gb18030Ranges ∷ Jis0208 ∷ Jis0212 ∷ Iso2022JpKatakana ∷ []

-- end

-- for each byte from 80 on a pointer
single_byte_sizes : map index_size single_byte_kinds ≡ replicate (length single_byte_kinds) 128
single_byte_sizes = refl

-- 126 leads of 157 trails
big5 : index_size Big5 ≡ 19782
big5 = refl

-- 126 leads of 190 trails
euc_kr : index_size EucKr ≡ 23940
euc_kr = refl

gb18030 : index_size Gb18030 ≡ 23940
gb18030 = refl

-- 60 leads of 188 trails, which Shift_JIS has
jis0208 : index_size Jis0208 ≡ 11280
jis0208 = refl

-- 94 leads of 94 trails
jis0212 : index_size Jis0212 ≡ 8836
jis0212 = refl

-- U+FF61 to U+FF9F
katakana : index_size Iso2022JpKatakana ≡ 63
katakana = refl

-- the ranges have rows, and no list
ranges : index_size Gb18030Ranges ≡ 0
ranges = refl

-- they alone have rows
with_rows : filter is_ranges (single_byte_kinds ++ other_kinds) ≡ Gb18030Ranges ∷ []
with_rows = refl

of_big5 : filter is_big5 (single_byte_kinds ++ other_kinds) ≡ Big5 ∷ []
of_big5 = refl

of_single_byte_encodings : filter is_single_byte_kind (single_byte_kinds ++ other_kinds) ≡ single_byte_kinds
of_single_byte_encodings = refl
