-- Written by tools/generate_encodings.py from tools/encodings.toml; do not edit.
-- The constants: each is named after its encoding, in upper case with _ for -, and its second name is the same value.
use Rattle.std.specs.Prelude.{◌≡◌, refl}
use Rattle.encoding_front.specs.declared.constants.TheConstants.{BIG5, BIG5_INIT, EUC_JP, EUC_JP_INIT, EUC_KR, EUC_KR_INIT, GB18030, GB18030_INIT, GBK, GBK_INIT, IBM866, IBM866_INIT, ISO_2022_JP, ISO_2022_JP_INIT, ISO_8859_2, ISO_8859_2_INIT, ISO_8859_3, ISO_8859_3_INIT, ISO_8859_4, ISO_8859_4_INIT, ISO_8859_5, ISO_8859_5_INIT, ISO_8859_6, ISO_8859_6_INIT, ISO_8859_7, ISO_8859_7_INIT, ISO_8859_8, ISO_8859_8_INIT, ISO_8859_8_I, ISO_8859_8_I_INIT, ISO_8859_10, ISO_8859_10_INIT, ISO_8859_13, ISO_8859_13_INIT, ISO_8859_14, ISO_8859_14_INIT, ISO_8859_15, ISO_8859_15_INIT, ISO_8859_16, ISO_8859_16_INIT, KOI8_R, KOI8_R_INIT, KOI8_U, KOI8_U_INIT, MACINTOSH, MACINTOSH_INIT, REPLACEMENT, REPLACEMENT_INIT, SHIFT_JIS, SHIFT_JIS_INIT, UTF_8, UTF_8_INIT, UTF_16BE, UTF_16BE_INIT, UTF_16LE, UTF_16LE_INIT, WINDOWS_874, WINDOWS_874_INIT, WINDOWS_1250, WINDOWS_1250_INIT, WINDOWS_1251, WINDOWS_1251_INIT, WINDOWS_1252, WINDOWS_1252_INIT, WINDOWS_1253, WINDOWS_1253_INIT, WINDOWS_1254, WINDOWS_1254_INIT, WINDOWS_1255, WINDOWS_1255_INIT, WINDOWS_1256, WINDOWS_1256_INIT, WINDOWS_1257, WINDOWS_1257_INIT, WINDOWS_1258, WINDOWS_1258_INIT, X_MAC_CYRILLIC, X_MAC_CYRILLIC_INIT, X_USER_DEFINED, X_USER_DEFINED_INIT}
use Rattle.encoding_front.specs.declared.encoding.Encoding.TheVariants.{Big5, EucJp, EucKr, Gb18030, Gbk, Ibm866, Iso2022Jp, Iso8859_2, Iso8859_3, Iso8859_4, Iso8859_5, Iso8859_6, Iso8859_7, Iso8859_8, Iso8859_8I, Iso8859_10, Iso8859_13, Iso8859_14, Iso8859_15, Iso8859_16, Koi8R, Koi8U, Macintosh, Replacement, ShiftJis, Utf8, Utf16Be, Utf16Le, Windows874, Windows1250, Windows1251, Windows1252, Windows1253, Windows1254, Windows1255, Windows1256, Windows1257, Windows1258, XMacCyrillic, XUserDefined}

big5 : (BIG5 ≡ Big5) × (BIG5_INIT ≡ Big5)
big5 = (refl, refl)

euc_jp : (EUC_JP ≡ EucJp) × (EUC_JP_INIT ≡ EucJp)
euc_jp = (refl, refl)

euc_kr : (EUC_KR ≡ EucKr) × (EUC_KR_INIT ≡ EucKr)
euc_kr = (refl, refl)

gb18030 : (GB18030 ≡ Gb18030) × (GB18030_INIT ≡ Gb18030)
gb18030 = (refl, refl)

gbk : (GBK ≡ Gbk) × (GBK_INIT ≡ Gbk)
gbk = (refl, refl)

ibm866 : (IBM866 ≡ Ibm866) × (IBM866_INIT ≡ Ibm866)
ibm866 = (refl, refl)

iso_2022_jp : (ISO_2022_JP ≡ Iso2022Jp) × (ISO_2022_JP_INIT ≡ Iso2022Jp)
iso_2022_jp = (refl, refl)

iso_8859_2 : (ISO_8859_2 ≡ Iso8859_2) × (ISO_8859_2_INIT ≡ Iso8859_2)
iso_8859_2 = (refl, refl)

iso_8859_3 : (ISO_8859_3 ≡ Iso8859_3) × (ISO_8859_3_INIT ≡ Iso8859_3)
iso_8859_3 = (refl, refl)

iso_8859_4 : (ISO_8859_4 ≡ Iso8859_4) × (ISO_8859_4_INIT ≡ Iso8859_4)
iso_8859_4 = (refl, refl)

iso_8859_5 : (ISO_8859_5 ≡ Iso8859_5) × (ISO_8859_5_INIT ≡ Iso8859_5)
iso_8859_5 = (refl, refl)

iso_8859_6 : (ISO_8859_6 ≡ Iso8859_6) × (ISO_8859_6_INIT ≡ Iso8859_6)
iso_8859_6 = (refl, refl)

iso_8859_7 : (ISO_8859_7 ≡ Iso8859_7) × (ISO_8859_7_INIT ≡ Iso8859_7)
iso_8859_7 = (refl, refl)

iso_8859_8 : (ISO_8859_8 ≡ Iso8859_8) × (ISO_8859_8_INIT ≡ Iso8859_8)
iso_8859_8 = (refl, refl)

iso_8859_8_i : (ISO_8859_8_I ≡ Iso8859_8I) × (ISO_8859_8_I_INIT ≡ Iso8859_8I)
iso_8859_8_i = (refl, refl)

iso_8859_10 : (ISO_8859_10 ≡ Iso8859_10) × (ISO_8859_10_INIT ≡ Iso8859_10)
iso_8859_10 = (refl, refl)

iso_8859_13 : (ISO_8859_13 ≡ Iso8859_13) × (ISO_8859_13_INIT ≡ Iso8859_13)
iso_8859_13 = (refl, refl)

iso_8859_14 : (ISO_8859_14 ≡ Iso8859_14) × (ISO_8859_14_INIT ≡ Iso8859_14)
iso_8859_14 = (refl, refl)

iso_8859_15 : (ISO_8859_15 ≡ Iso8859_15) × (ISO_8859_15_INIT ≡ Iso8859_15)
iso_8859_15 = (refl, refl)

iso_8859_16 : (ISO_8859_16 ≡ Iso8859_16) × (ISO_8859_16_INIT ≡ Iso8859_16)
iso_8859_16 = (refl, refl)

koi8_r : (KOI8_R ≡ Koi8R) × (KOI8_R_INIT ≡ Koi8R)
koi8_r = (refl, refl)

koi8_u : (KOI8_U ≡ Koi8U) × (KOI8_U_INIT ≡ Koi8U)
koi8_u = (refl, refl)

macintosh : (MACINTOSH ≡ Macintosh) × (MACINTOSH_INIT ≡ Macintosh)
macintosh = (refl, refl)

replacement : (REPLACEMENT ≡ Replacement) × (REPLACEMENT_INIT ≡ Replacement)
replacement = (refl, refl)

shift_jis : (SHIFT_JIS ≡ ShiftJis) × (SHIFT_JIS_INIT ≡ ShiftJis)
shift_jis = (refl, refl)

utf_8 : (UTF_8 ≡ Utf8) × (UTF_8_INIT ≡ Utf8)
utf_8 = (refl, refl)

utf_16be : (UTF_16BE ≡ Utf16Be) × (UTF_16BE_INIT ≡ Utf16Be)
utf_16be = (refl, refl)

utf_16le : (UTF_16LE ≡ Utf16Le) × (UTF_16LE_INIT ≡ Utf16Le)
utf_16le = (refl, refl)

windows_874 : (WINDOWS_874 ≡ Windows874) × (WINDOWS_874_INIT ≡ Windows874)
windows_874 = (refl, refl)

windows_1250 : (WINDOWS_1250 ≡ Windows1250) × (WINDOWS_1250_INIT ≡ Windows1250)
windows_1250 = (refl, refl)

windows_1251 : (WINDOWS_1251 ≡ Windows1251) × (WINDOWS_1251_INIT ≡ Windows1251)
windows_1251 = (refl, refl)

windows_1252 : (WINDOWS_1252 ≡ Windows1252) × (WINDOWS_1252_INIT ≡ Windows1252)
windows_1252 = (refl, refl)

windows_1253 : (WINDOWS_1253 ≡ Windows1253) × (WINDOWS_1253_INIT ≡ Windows1253)
windows_1253 = (refl, refl)

windows_1254 : (WINDOWS_1254 ≡ Windows1254) × (WINDOWS_1254_INIT ≡ Windows1254)
windows_1254 = (refl, refl)

windows_1255 : (WINDOWS_1255 ≡ Windows1255) × (WINDOWS_1255_INIT ≡ Windows1255)
windows_1255 = (refl, refl)

windows_1256 : (WINDOWS_1256 ≡ Windows1256) × (WINDOWS_1256_INIT ≡ Windows1256)
windows_1256 = (refl, refl)

windows_1257 : (WINDOWS_1257 ≡ Windows1257) × (WINDOWS_1257_INIT ≡ Windows1257)
windows_1257 = (refl, refl)

windows_1258 : (WINDOWS_1258 ≡ Windows1258) × (WINDOWS_1258_INIT ≡ Windows1258)
windows_1258 = (refl, refl)

x_mac_cyrillic : (X_MAC_CYRILLIC ≡ XMacCyrillic) × (X_MAC_CYRILLIC_INIT ≡ XMacCyrillic)
x_mac_cyrillic = (refl, refl)

x_user_defined : (X_USER_DEFINED ≡ XUserDefined) × (X_USER_DEFINED_INIT ≡ XUserDefined)
x_user_defined = (refl, refl)
