-- The encodings of the Encoding Standard (section 4.2, "Names and labels").
use Rattle.std.specs.Prelude.{◌≡◌, ℕ, true, false, List, [], ◌∷◌, codes, map, refl}
use Rattle.std.specs.List.{range_with_len}
use Rattle.encoding_tables.specs.declared.index_kind.IndexKind.{IndexKind}
use Rattle.encoding_front.specs.declared.encoding.Encoding.{Encoding}
use Rattle.encoding_front.specs.declared.codec_kind.CodecKind.{CodecKind}
-- Written by tools/generate_encodings.py from tools/encodings.toml; do not edit.
use Rattle.encoding_front.specs.declared.encoding.Encoding.TheVariants.{Big5, EucJp, EucKr, Gb18030, Gbk, Ibm866, Iso2022Jp, Iso8859_2, Iso8859_3, Iso8859_4, Iso8859_5, Iso8859_6, Iso8859_7, Iso8859_8, Iso8859_8I, Iso8859_10, Iso8859_13, Iso8859_14, Iso8859_15, Iso8859_16, Koi8R, Koi8U, Macintosh, Replacement, ShiftJis, Utf8, Utf16Be, Utf16Le, Windows874, Windows1250, Windows1251, Windows1252, Windows1253, Windows1254, Windows1255, Windows1256, Windows1257, Windows1258, XMacCyrillic, XUserDefined}
use Rattle.encoding_labels.specs.declared.places.TheConstants.{ENCODING_COUNT, BIG5, EUC_JP, EUC_KR, GB18030, GBK, IBM866, ISO_2022_JP, ISO_8859_2, ISO_8859_3, ISO_8859_4, ISO_8859_5, ISO_8859_6, ISO_8859_7, ISO_8859_8, ISO_8859_8_I, ISO_8859_10, ISO_8859_13, ISO_8859_14, ISO_8859_15, ISO_8859_16, KOI8_R, KOI8_U, MACINTOSH, REPLACEMENT, SHIFT_JIS, UTF_8, UTF_16BE, UTF_16LE, WINDOWS_874, WINDOWS_1250, WINDOWS_1251, WINDOWS_1252, WINDOWS_1253, WINDOWS_1254, WINDOWS_1255, WINDOWS_1256, WINDOWS_1257, WINDOWS_1258, X_MAC_CYRILLIC, X_USER_DEFINED}

-- end

-- of each encoding its number among all, its name, and how it is read and written
abbrev pub encoding_row : Encoding → ℕ × List ℕ × CodecKind
encoding_row Utf8 = (UTF_8, codes "UTF-8", CodecKind.Utf8)
encoding_row Ibm866 = (IBM866, codes "IBM866", CodecKind.SingleByte IndexKind.Ibm866)
encoding_row Iso8859_2 = (ISO_8859_2, codes "ISO-8859-2", CodecKind.SingleByte IndexKind.Iso8859_2)
encoding_row Iso8859_3 = (ISO_8859_3, codes "ISO-8859-3", CodecKind.SingleByte IndexKind.Iso8859_3)
encoding_row Iso8859_4 = (ISO_8859_4, codes "ISO-8859-4", CodecKind.SingleByte IndexKind.Iso8859_4)
encoding_row Iso8859_5 = (ISO_8859_5, codes "ISO-8859-5", CodecKind.SingleByte IndexKind.Iso8859_5)
encoding_row Iso8859_6 = (ISO_8859_6, codes "ISO-8859-6", CodecKind.SingleByte IndexKind.Iso8859_6)
encoding_row Iso8859_7 = (ISO_8859_7, codes "ISO-8859-7", CodecKind.SingleByte IndexKind.Iso8859_7)
encoding_row Iso8859_8 = (ISO_8859_8, codes "ISO-8859-8", CodecKind.SingleByte IndexKind.Iso8859_8)
encoding_row Iso8859_8I = (ISO_8859_8_I, codes "ISO-8859-8-I", CodecKind.SingleByte IndexKind.Iso8859_8)
encoding_row Iso8859_10 = (ISO_8859_10, codes "ISO-8859-10", CodecKind.SingleByte IndexKind.Iso8859_10)
encoding_row Iso8859_13 = (ISO_8859_13, codes "ISO-8859-13", CodecKind.SingleByte IndexKind.Iso8859_13)
encoding_row Iso8859_14 = (ISO_8859_14, codes "ISO-8859-14", CodecKind.SingleByte IndexKind.Iso8859_14)
encoding_row Iso8859_15 = (ISO_8859_15, codes "ISO-8859-15", CodecKind.SingleByte IndexKind.Iso8859_15)
encoding_row Iso8859_16 = (ISO_8859_16, codes "ISO-8859-16", CodecKind.SingleByte IndexKind.Iso8859_16)
encoding_row Koi8R = (KOI8_R, codes "KOI8-R", CodecKind.SingleByte IndexKind.Koi8R)
encoding_row Koi8U = (KOI8_U, codes "KOI8-U", CodecKind.SingleByte IndexKind.Koi8U)
encoding_row Macintosh = (MACINTOSH, codes "macintosh", CodecKind.SingleByte IndexKind.Macintosh)
encoding_row Windows874 = (WINDOWS_874, codes "windows-874", CodecKind.SingleByte IndexKind.Windows874)
encoding_row Windows1250 = (WINDOWS_1250, codes "windows-1250", CodecKind.SingleByte IndexKind.Windows1250)
encoding_row Windows1251 = (WINDOWS_1251, codes "windows-1251", CodecKind.SingleByte IndexKind.Windows1251)
encoding_row Windows1252 = (WINDOWS_1252, codes "windows-1252", CodecKind.SingleByte IndexKind.Windows1252)
encoding_row Windows1253 = (WINDOWS_1253, codes "windows-1253", CodecKind.SingleByte IndexKind.Windows1253)
encoding_row Windows1254 = (WINDOWS_1254, codes "windows-1254", CodecKind.SingleByte IndexKind.Windows1254)
encoding_row Windows1255 = (WINDOWS_1255, codes "windows-1255", CodecKind.SingleByte IndexKind.Windows1255)
encoding_row Windows1256 = (WINDOWS_1256, codes "windows-1256", CodecKind.SingleByte IndexKind.Windows1256)
encoding_row Windows1257 = (WINDOWS_1257, codes "windows-1257", CodecKind.SingleByte IndexKind.Windows1257)
encoding_row Windows1258 = (WINDOWS_1258, codes "windows-1258", CodecKind.SingleByte IndexKind.Windows1258)
encoding_row XMacCyrillic = (X_MAC_CYRILLIC, codes "x-mac-cyrillic", CodecKind.SingleByte IndexKind.XMacCyrillic)
encoding_row Gbk = (GBK, codes "GBK", CodecKind.Gb18030 false)
encoding_row Gb18030 = (GB18030, codes "gb18030", CodecKind.Gb18030 true)
encoding_row Big5 = (BIG5, codes "Big5", CodecKind.Big5)
encoding_row EucJp = (EUC_JP, codes "EUC-JP", CodecKind.EucJp)
encoding_row Iso2022Jp = (ISO_2022_JP, codes "ISO-2022-JP", CodecKind.Iso2022Jp)
encoding_row ShiftJis = (SHIFT_JIS, codes "Shift_JIS", CodecKind.ShiftJis)
encoding_row EucKr = (EUC_KR, codes "EUC-KR", CodecKind.EucKr)
encoding_row Replacement = (REPLACEMENT, codes "replacement", CodecKind.Replacement)
encoding_row Utf16Be = (UTF_16BE, codes "UTF-16BE", CodecKind.Utf16 true)
encoding_row Utf16Le = (UTF_16LE, codes "UTF-16LE", CodecKind.Utf16 false)
encoding_row XUserDefined = (X_USER_DEFINED, codes "x-user-defined", CodecKind.UserDefined)

-- the number of an encoding: its position, from 0, in the list of all 40
abbrev pub number_of : Encoding → ℕ
number_of e = (encoding_row e).0

-- the name of an encoding, in bytes of ASCII (section 4.2, "Names and labels")
abbrev pub encoding_name : Encoding → List ℕ
encoding_name e = (encoding_row e).1

-- how an encoding is read and written: its codec, with the index, the byte order or the variant
abbrev pub codec_kind_of : Encoding → CodecKind
codec_kind_of e = (encoding_row e).2

-- all 40 encodings, in the order of their numbers
-- Written by tools/generate_encodings.py from tools/encodings.toml; do not edit.
abbrev pub encodings : List Encoding
encodings = Big5 ∷ EucJp ∷ EucKr ∷ Gb18030 ∷ Gbk ∷ Ibm866 ∷ Iso2022Jp ∷ Iso8859_2 ∷ Iso8859_3 ∷ Iso8859_4 ∷ Iso8859_5 ∷ Iso8859_6 ∷ Iso8859_7 ∷ Iso8859_8 ∷ Iso8859_8I ∷ Iso8859_10 ∷ Iso8859_13 ∷ Iso8859_14 ∷ Iso8859_15 ∷ Iso8859_16 ∷ Koi8R ∷ Koi8U ∷ Macintosh ∷ Replacement ∷ ShiftJis ∷ Utf8 ∷ Utf16Be ∷ Utf16Le ∷ Windows874 ∷ Windows1250 ∷ Windows1251 ∷ Windows1252 ∷ Windows1253 ∷ Windows1254 ∷ Windows1255 ∷ Windows1256 ∷ Windows1257 ∷ Windows1258 ∷ XMacCyrillic ∷ XUserDefined ∷ []

-- end

-- the numbers of the encodings, in the order of their list, are 0 to 39
pub numbers_are_positions : map number_of encodings ≡ range_with_len 0 ENCODING_COUNT
numbers_are_positions = refl
