-- Worked rows of `specs/Bidi.antt`: each block or control with its neighbours on both sides.
use Rattle.std.specs.Prelude.{◌≡◌, Bool, true, false, List, [], ◌∷◌, map, refl}
use Rattle.encoding_mem.specs.Bidi.{is_bidi_char, is_bidi_unit}

-- the first and the last of a range, between the characters before and after it
abbrev ends_alone : List Bool
ends_alone = false ∷ true ∷ true ∷ false ∷ []

-- one character between its neighbours
abbrev middle_alone : List Bool
middle_alone = false ∷ true ∷ false ∷ []

-- Hebrew to Arabic Extended-A
hebrew_and_arabic : map is_bidi_char (0x58F ∷ 0x590 ∷ 0x8FF ∷ 0x900 ∷ []) ≡ ends_alone
hebrew_and_arabic = refl

-- RIGHT-TO-LEFT MARK
right_to_left_mark : map is_bidi_char (0x200E ∷ 0x200F ∷ 0x2010 ∷ []) ≡ middle_alone
right_to_left_mark = refl

-- RIGHT-TO-LEFT EMBEDDING
right_to_left_embedding : map is_bidi_char (0x202A ∷ 0x202B ∷ 0x202C ∷ []) ≡ middle_alone
right_to_left_embedding = refl

-- RIGHT-TO-LEFT OVERRIDE
right_to_left_override : map is_bidi_char (0x202D ∷ 0x202E ∷ 0x202F ∷ []) ≡ middle_alone
right_to_left_override = refl

-- RIGHT-TO-LEFT ISOLATE
right_to_left_isolate : map is_bidi_char (0x2066 ∷ 0x2067 ∷ 0x2068 ∷ []) ≡ middle_alone
right_to_left_isolate = refl

-- the Hebrew presentation forms and Arabic Presentation Forms-A
presentation_forms_a : map is_bidi_char (0xFB1C ∷ 0xFB1D ∷ 0xFDFF ∷ 0xFE00 ∷ []) ≡ ends_alone
presentation_forms_a = refl

-- Arabic Presentation Forms-B, but for the byte order mark at its end
presentation_forms_b : map is_bidi_char (0xFE6F ∷ 0xFE70 ∷ 0xFEFE ∷ 0xFEFF ∷ []) ≡ ends_alone
presentation_forms_b = refl

-- the blocks of plane 1
cypriot_and_on : map is_bidi_char (0x107FF ∷ 0x10800 ∷ 0x10FFF ∷ 0x11000 ∷ []) ≡ ends_alone
cypriot_and_on = refl

mende_and_on : map is_bidi_char (0x1E7FF ∷ 0x1E800 ∷ 0x1EFFF ∷ 0x1F000 ∷ []) ≡ ends_alone
mende_and_on = refl

-- U+10800 to U+10FFF begin with D802 and D803, U+1E800 to U+1EFFF with D83A and D83B
first_surrogates : map is_bidi_unit (0xD801 ∷ 0xD802 ∷ 0xD803 ∷ 0xD804 ∷ []) ≡ ends_alone
first_surrogates = refl

second_surrogates : map is_bidi_unit (0xD839 ∷ 0xD83A ∷ 0xD83B ∷ 0xD83C ∷ []) ≡ ends_alone
second_surrogates = refl

-- a unit that is a character counts as that character
units_of_hebrew_and_arabic : map is_bidi_unit (0x58F ∷ 0x590 ∷ 0x8FF ∷ 0x900 ∷ []) ≡ ends_alone
units_of_hebrew_and_arabic = refl

units_of_presentation_forms_b : map is_bidi_unit (0xFE6F ∷ 0xFE70 ∷ 0xFEFE ∷ 0xFEFF ∷ []) ≡ ends_alone
units_of_presentation_forms_b = refl
