-- The kinds of index (the Encoding Standard, section 5).
use Rattle.std.specs.Prelude.{ℕ, Bool, true, false, nat_eq}
use Rattle.encoding_tables.specs.declared.index_kind.IndexKind.{IndexKind}
use Rattle.encoding_tables.specs.declared.index_kind.IndexKind.TheVariants.{Big5, EucKr, Gb18030, Gb18030Ranges, Jis0208, Jis0212, Iso2022JpKatakana}

-- how many entries the list of a kind of index has: 0 for gb18030 ranges, which has rows instead
abbrev pub index_size : IndexKind → ℕ
index_size Big5 = 19782
index_size EucKr = 23940
index_size Gb18030 = 23940
index_size Gb18030Ranges = 0
index_size Jis0208 = 11280
index_size Jis0212 = 8836
index_size Iso2022JpKatakana = 63
index_size _ = 128

-- whether a kind of index is that of Big5
abbrev pub is_big5 : IndexKind → Bool
is_big5 Big5 = true
is_big5 _ = false

-- whether a kind of index is gb18030 ranges, which has rows and no list
abbrev pub is_ranges : IndexKind → Bool
is_ranges Gb18030Ranges = true
is_ranges _ = false

-- whether a kind of index is that of a single-byte encoding: its list has 128 entries
abbrev pub is_single_byte_kind : IndexKind → Bool
is_single_byte_kind kind = nat_eq (index_size kind) 128
