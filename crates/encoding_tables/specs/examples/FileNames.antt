-- Worked rows of `specs/FileNames.antt`.
use Rattle.std.specs.Prelude.{◌≡◌, codes, refl}
use Rattle.encoding_tables.specs.declared.index_kind.IndexKind.TheVariants.{Iso8859_2, Gb18030Ranges, Iso2022JpKatakana}
use Rattle.encoding_tables.specs.FileNames.{file_name_of}

a_single_byte_index : file_name_of Iso8859_2 ≡ codes "index-iso-8859-2.txt"
a_single_byte_index = refl

the_ranges : file_name_of Gb18030Ranges ≡ codes "index-gb18030-ranges.txt"
the_ranges = refl

the_longest : file_name_of Iso2022JpKatakana ≡ codes "index-iso-2022-jp-katakana.txt"
the_longest = refl
