-- The labels of encodings (the Encoding Standard, section 4.2, "Names and labels").
use Rattle.std.specs.Prelude.{◌≡◌, ℕ, ◌-◌, ◌≤◌, ◌==◌, Bool, cond, ◌||◌, Option, None, Some, List, [], ◌∷◌, ◌++◌, map, length, take, drop, codes, refl, Contains}
use Rattle.std.specs.List.{prefix_len, suffix_len, range_with_len, AllPass}
use Rattle.std.specs.Char.{is_ascii_whitespace, to_ascii_lowercase, is_ascii_lowercase, is_ascii_digit, char_set_contains}
use Rattle.std.specs.Str.{bytes_eq}
use Prim.Native.String.{String}
-- Written by tools/generate_encodings.py from tools/encodings.toml; do not edit.
use Rattle.encoding_labels.specs.declared.places.TheConstants.{ENCODING_COUNT, BIG5, EUC_JP, EUC_KR, GB18030, GBK, IBM866, ISO_2022_JP, ISO_8859_2, ISO_8859_3, ISO_8859_4, ISO_8859_5, ISO_8859_6, ISO_8859_7, ISO_8859_8, ISO_8859_8_I, ISO_8859_10, ISO_8859_13, ISO_8859_14, ISO_8859_15, ISO_8859_16, KOI8_R, KOI8_U, MACINTOSH, REPLACEMENT, SHIFT_JIS, UTF_8, UTF_16BE, UTF_16LE, WINDOWS_874, WINDOWS_1250, WINDOWS_1251, WINDOWS_1252, WINDOWS_1253, WINDOWS_1254, WINDOWS_1255, WINDOWS_1256, WINDOWS_1257, WINDOWS_1258, X_MAC_CYRILLIC, X_USER_DEFINED}

-- end

-- a byte put before some words: a space begins an empty word there, any other joins the first word
abbrev pub add_byte : ℕ → List (List ℕ) → List (List ℕ)
add_byte b [] = (b ∷ []) ∷ []
add_byte b (word ∷ more) = cond (b == 32) ([] ∷ word ∷ more) ((b ∷ word) ∷ more)

-- the words of a text, which is cut at each space
abbrev pub split_at_spaces : List ℕ → List (List ℕ)
split_at_spaces [] = [] ∷ []
split_at_spaces (b ∷ bs) = add_byte b (split_at_spaces bs)

-- a row of the table of labels: the labels of one encoding, each with the encoding's number
abbrev pub label_row : ℕ → String → List (ℕ × List ℕ)
label_row number text = map (λ (label : List ℕ). (number, label)) (split_at_spaces (codes text))

-- the labels of all rows of the table, each with its encoding's number, in one list
abbrev pub all_of : List (List (ℕ × List ℕ)) → List (ℕ × List ℕ)
all_of [] = []
all_of (r ∷ rows) = r ++ all_of rows

-- every label, with the number of its encoding: the standard's table (section 4.2), row by row
unfoldable pub labels : List (ℕ × List ℕ)
labels = all_of (
    label_row UTF_8 "unicode-1-1-utf-8 unicode11utf8 unicode20utf8 utf-8 utf8 x-unicode20utf8"
    ∷ label_row IBM866 "866 cp866 csibm866 ibm866"
    ∷ label_row ISO_8859_2 "csisolatin2 iso-8859-2 iso-ir-101 iso8859-2 iso88592 iso_8859-2 iso_8859-2:1987 l2 latin2"
    ∷ label_row ISO_8859_3 "csisolatin3 iso-8859-3 iso-ir-109 iso8859-3 iso88593 iso_8859-3 iso_8859-3:1988 l3 latin3"
    ∷ label_row ISO_8859_4 "csisolatin4 iso-8859-4 iso-ir-110 iso8859-4 iso88594 iso_8859-4 iso_8859-4:1988 l4 latin4"
    ∷ label_row ISO_8859_5 "csisolatincyrillic cyrillic iso-8859-5 iso-ir-144 iso8859-5 iso88595 iso_8859-5 iso_8859-5:1988"
    ∷ label_row ISO_8859_6 "arabic asmo-708 csiso88596e csiso88596i csisolatinarabic ecma-114 iso-8859-6 iso-8859-6-e iso-8859-6-i iso-ir-127 iso8859-6 iso88596 iso_8859-6 iso_8859-6:1987"
    ∷ label_row ISO_8859_7 "csisolatingreek ecma-118 elot_928 greek greek8 iso-8859-7 iso-ir-126 iso8859-7 iso88597 iso_8859-7 iso_8859-7:1987 sun_eu_greek"
    ∷ label_row ISO_8859_8 "csiso88598e csisolatinhebrew hebrew iso-8859-8 iso-8859-8-e iso-ir-138 iso8859-8 iso88598 iso_8859-8 iso_8859-8:1988 visual"
    ∷ label_row ISO_8859_8_I "csiso88598i iso-8859-8-i logical"
    ∷ label_row ISO_8859_10 "csisolatin6 iso-8859-10 iso-ir-157 iso8859-10 iso885910 l6 latin6"
    ∷ label_row ISO_8859_13 "iso-8859-13 iso8859-13 iso885913"
    ∷ label_row ISO_8859_14 "iso-8859-14 iso8859-14 iso885914"
    ∷ label_row ISO_8859_15 "csisolatin9 iso-8859-15 iso8859-15 iso885915 iso_8859-15 l9"
    ∷ label_row ISO_8859_16 "iso-8859-16"
    ∷ label_row KOI8_R "cskoi8r koi koi8 koi8-r koi8_r"
    ∷ label_row KOI8_U "koi8-ru koi8-u"
    ∷ label_row MACINTOSH "csmacintosh mac macintosh x-mac-roman"
    ∷ label_row WINDOWS_874 "dos-874 iso-8859-11 iso8859-11 iso885911 tis-620 windows-874"
    ∷ label_row WINDOWS_1250 "cp1250 windows-1250 x-cp1250"
    ∷ label_row WINDOWS_1251 "cp1251 windows-1251 x-cp1251"
    ∷ label_row WINDOWS_1252 "ansi_x3.4-1968 ascii cp1252 cp819 csisolatin1 ibm819 iso-8859-1 iso-ir-100 iso8859-1 iso88591 iso_8859-1 iso_8859-1:1987 l1 latin1 us-ascii windows-1252 x-cp1252"
    ∷ label_row WINDOWS_1253 "cp1253 windows-1253 x-cp1253"
    ∷ label_row WINDOWS_1254 "cp1254 csisolatin5 iso-8859-9 iso-ir-148 iso8859-9 iso88599 iso_8859-9 iso_8859-9:1989 l5 latin5 windows-1254 x-cp1254"
    ∷ label_row WINDOWS_1255 "cp1255 windows-1255 x-cp1255"
    ∷ label_row WINDOWS_1256 "cp1256 windows-1256 x-cp1256"
    ∷ label_row WINDOWS_1257 "cp1257 windows-1257 x-cp1257"
    ∷ label_row WINDOWS_1258 "cp1258 windows-1258 x-cp1258"
    ∷ label_row X_MAC_CYRILLIC "x-mac-cyrillic x-mac-ukrainian"
    ∷ label_row GBK "chinese csgb2312 csiso58gb231280 gb2312 gb_2312 gb_2312-80 gbk iso-ir-58 x-gbk"
    ∷ label_row GB18030 "gb18030"
    ∷ label_row BIG5 "big5 big5-hkscs cn-big5 csbig5 x-x-big5"
    ∷ label_row EUC_JP "cseucpkdfmtjapanese euc-jp x-euc-jp"
    ∷ label_row ISO_2022_JP "csiso2022jp iso-2022-jp"
    ∷ label_row SHIFT_JIS "csshiftjis ms932 ms_kanji shift-jis shift_jis sjis windows-31j x-sjis"
    ∷ label_row EUC_KR "cseuckr csksc56011987 euc-kr iso-ir-149 korean ks_c_5601-1987 ks_c_5601-1989 ksc5601 ksc_5601 windows-949"
    ∷ label_row REPLACEMENT "csiso2022kr hz-gb-2312 iso-2022-cn iso-2022-cn-ext iso-2022-kr replacement"
    ∷ label_row UTF_16BE "unicodefffe utf-16be"
    ∷ label_row UTF_16LE "csunicode iso-10646-ucs-2 ucs-2 unicode unicodefeff utf-16 utf-16le"
    ∷ label_row X_USER_DEFINED "x-user-defined"
    ∷ [])

-- bytes without the white space at their start ("ASCII whitespace" of the Infra Standard)
abbrev pub without_leading : List ℕ → List ℕ
without_leading bytes = drop (prefix_len is_ascii_whitespace bytes) bytes

-- bytes without the white space at their end ("ASCII whitespace" of the Infra Standard)
abbrev pub without_trailing : List ℕ → List ℕ
without_trailing bytes = take (length bytes - suffix_len is_ascii_whitespace bytes) bytes

-- bytes without the white space at both ends ("ASCII whitespace" of the Infra Standard)
abbrev pub trimmed : List ℕ → List ℕ
trimmed bytes = without_trailing (without_leading bytes)

-- what is looked up for a label: its bytes without white space at both ends, in ASCII lower case
abbrev pub label_text : List ℕ → List ℕ
label_text label = map to_ascii_lowercase (trimmed label)

-- the encoding of this number has the label, white space at its ends and ASCII case apart ("get an
-- encoding", section 4.2)
abbrev pub IsLabelOf : ℕ → List ℕ → Type 0
IsLabelOf number label = Contains labels (number, label_text label)

-- the encoding's number in the first entry whose label is this text, if there is one
abbrev pub label_number_in : List (ℕ × List ℕ) → List ℕ → Option ℕ
label_number_in [] text = None
label_number_in (entry ∷ entries) text = cond (bytes_eq entry.1 text) (Some entry.0) (label_number_in entries text)

-- the number of the encoding that has the label, if there is one ("get an encoding", section 4.2)
abbrev pub number_of_label : List ℕ → Option ℕ
number_of_label label = label_number_in labels (label_text label)

-- the bytes that labels are made of: `a` to `z`, `0` to `9`, `-`, `.`, `:` and `_`
abbrev pub is_label_byte : ℕ → Bool
is_label_byte b = is_ascii_lowercase b || is_ascii_digit b || char_set_contains (codes "-.:_") b

-- the text has 2 to 19 bytes, each of them `a` to `z`, `0` to `9`, `-`, `.`, `:` or `_`
pub record IsLabelText (text : List ℕ) : Type 0 where
  pub shortest : 2 ≤ length text
  pub longest : length text ≤ 19
  pub bytes : AllPass is_label_byte text

-- the encodings in the order of their numbers, which are 0, 1 and so on below `ENCODING_COUNT`
-- Written by tools/generate_encodings.py from tools/encodings.toml; do not edit.
pub label_numbers_rise : (BIG5 ∷ EUC_JP ∷ EUC_KR ∷ GB18030 ∷ GBK ∷ IBM866 ∷ ISO_2022_JP ∷ ISO_8859_2 ∷ ISO_8859_3 ∷ ISO_8859_4 ∷ ISO_8859_5 ∷ ISO_8859_6 ∷ ISO_8859_7 ∷ ISO_8859_8 ∷ ISO_8859_8_I ∷ ISO_8859_10 ∷ ISO_8859_13 ∷ ISO_8859_14 ∷ ISO_8859_15 ∷ ISO_8859_16 ∷ KOI8_R ∷ KOI8_U ∷ MACINTOSH ∷ REPLACEMENT ∷ SHIFT_JIS ∷ UTF_8 ∷ UTF_16BE ∷ UTF_16LE ∷ WINDOWS_874 ∷ WINDOWS_1250 ∷ WINDOWS_1251 ∷ WINDOWS_1252 ∷ WINDOWS_1253 ∷ WINDOWS_1254 ∷ WINDOWS_1255 ∷ WINDOWS_1256 ∷ WINDOWS_1257 ∷ WINDOWS_1258 ∷ X_MAC_CYRILLIC ∷ X_USER_DEFINED ∷ []) ≡ range_with_len 0 ENCODING_COUNT
label_numbers_rise = refl

-- end
