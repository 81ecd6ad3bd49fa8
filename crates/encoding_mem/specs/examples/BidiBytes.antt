-- Bytes with which characters from right to left begin.
use Rattle.std.specs.Prelude.{true, false}
use Rattle.std.proofs.Common.{◌≡◌, refl}
use Rattle.encoding_mem.specs.BidiBytes.{is_bidi_bytes, is_bidi_lead}

-- U+058F, U+0590 and U+08FF, U+0900
before_hebrew : is_bidi_bytes 0xD6 0x8F 0x20 ≡ false
before_hebrew = refl

hebrew : is_bidi_bytes 0xD6 0x90 0x20 ≡ true
hebrew = refl

arabic_extended : is_bidi_bytes 0xE0 0xA3 0xBF ≡ true
arabic_extended = refl

devanagari : is_bidi_bytes 0xE0 0xA4 0x80 ≡ false
devanagari = refl

-- U+200E and U+200F, U+202B, U+202E, U+2067
mark_of_left : is_bidi_bytes 0xE2 0x80 0x8E ≡ false
mark_of_left = refl

mark_of_right : is_bidi_bytes 0xE2 0x80 0x8F ≡ true
mark_of_right = refl

embedding : is_bidi_bytes 0xE2 0x80 0xAB ≡ true
embedding = refl

override : is_bidi_bytes 0xE2 0x80 0xAE ≡ true
override = refl

isolate : is_bidi_bytes 0xE2 0x81 0xA7 ≡ true
isolate = refl

-- U+FB1C, U+FB1D and U+FDFF, U+FE00
before_forms : is_bidi_bytes 0xEF 0xAC 0x9C ≡ false
before_forms = refl

first_form : is_bidi_bytes 0xEF 0xAC 0x9D ≡ true
first_form = refl

last_form : is_bidi_bytes 0xEF 0xB7 0xBF ≡ true
last_form = refl

behind_forms : is_bidi_bytes 0xEF 0xB8 0x80 ≡ false
behind_forms = refl

-- U+FE70, U+FEFE and the byte order mark
first_of_b : is_bidi_bytes 0xEF 0xB9 0xB0 ≡ true
first_of_b = refl

last_of_b : is_bidi_bytes 0xEF 0xBB 0xBE ≡ true
last_of_b = refl

byte_order_mark : is_bidi_bytes 0xEF 0xBB 0xBF ≡ false
byte_order_mark = refl

-- U+10800 and U+10FFF, U+1E800 and U+1EFFF, U+1F600
first_of_supplement : is_bidi_bytes 0xF0 0x90 0xA0 ≡ true
first_of_supplement = refl

last_of_supplement : is_bidi_bytes 0xF0 0x90 0xBF ≡ true
last_of_supplement = refl

mende : is_bidi_bytes 0xF0 0x9E 0xA0 ≡ true
mende = refl

last_of_second : is_bidi_bytes 0xF0 0x9E 0xBF ≡ true
last_of_second = refl

emoji : is_bidi_bytes 0xF0 0x9F 0x98 ≡ false
emoji = refl

-- the first bytes: those of Armenian and Hebrew, of the Arabic extensions and of Georgian, of the controls and of kana,
-- of private use and of the presentation forms, of the supplements and of the later planes
armenian_lead : is_bidi_lead 0xD5 ≡ false
armenian_lead = refl

hebrew_lead : is_bidi_lead 0xD6 ≡ true
hebrew_lead = refl

extended_lead : is_bidi_lead 0xE0 ≡ true
extended_lead = refl

georgian_lead : is_bidi_lead 0xE1 ≡ false
georgian_lead = refl

control_lead : is_bidi_lead 0xE2 ≡ true
control_lead = refl

kana_lead : is_bidi_lead 0xE3 ≡ false
kana_lead = refl

private_lead : is_bidi_lead 0xEE ≡ false
private_lead = refl

forms_lead : is_bidi_lead 0xEF ≡ true
forms_lead = refl

supplement_lead : is_bidi_lead 0xF0 ≡ true
supplement_lead = refl

later_plane_lead : is_bidi_lead 0xF1 ≡ false
later_plane_lead = refl
