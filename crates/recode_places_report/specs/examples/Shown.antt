-- Worked rows of `specs/Shown.antt`.
use Rattle.std.specs.Prelude.{◌≡◌, true, false, ◌∷◌, [], codes, refl}
use Rattle.std.specs.Fmt.{char_count, digits, padded_integral}
use Rattle.recode_places_report.specs.Shown.{is_unseen, shown_as, shown_text}
use Rattle.recode_places_report.specs.declared.cell.Cell.TheVariants.{Character, Byte}

shown_as-letter : shown_as (Character 0x61) ≡ codes "a"
unfolding lib.Utf8.encode
shown_as-letter = refl

-- two bytes of UTF-8
shown_as-of_two_bytes : shown_as (Character 0xE9) ≡ 0xC3 ∷ 0xA9 ∷ []
unfolding lib.Utf8.encode
shown_as-of_two_bytes = refl

shown_as-tab : shown_as (Character 9) ≡ codes " "
shown_as-tab = refl

-- a control: the first character of what a terminal obeys
shown_as-escape : shown_as (Character 0x1B) ≡ codes "<U+001B>"
unfolding digits padded_integral char_count
shown_as-escape = refl

-- the last of the controls
shown_as-last_control : shown_as (Character 0x9F) ≡ codes "<U+009F>"
unfolding digits padded_integral char_count
shown_as-last_control = refl

-- the override of the direction, from right to left
shown_as-override : shown_as (Character 0x202E) ≡ codes "<U+202E>"
unfolding digits padded_integral char_count
shown_as-override = refl

-- five digits
shown_as-tag : shown_as (Character 0xE0041) ≡ codes "<U+E0041>"
unfolding digits padded_integral char_count
shown_as-tag = refl

shown_as-byte : shown_as (Byte 0xFF) ≡ codes "<FF>"
unfolding digits padded_integral char_count
shown_as-byte = refl

shown_as-small_byte : shown_as (Byte 0xA) ≡ codes "<0A>"
unfolding digits padded_integral char_count
shown_as-small_byte = refl

-- the ends of each range of what can't be seen, and their neighbours
is_unseen-soft_hyphen : is_unseen 0xAD ≡ true
is_unseen-soft_hyphen = refl

is_unseen-registered_sign : is_unseen 0xAE ≡ false
is_unseen-registered_sign = refl

is_unseen-grapheme_joiner : is_unseen 0x34F ≡ true
is_unseen-grapheme_joiner = refl

is_unseen-arrowhead : is_unseen 0x350 ≡ false
is_unseen-arrowhead = refl

is_unseen-letter_mark : is_unseen 0x61C ≡ true
is_unseen-letter_mark = refl

is_unseen-before_hangul_fillers : is_unseen 0x115E ≡ false
is_unseen-before_hangul_fillers = refl

is_unseen-first_hangul_filler : is_unseen 0x115F ≡ true
is_unseen-first_hangul_filler = refl

is_unseen-last_hangul_filler : is_unseen 0x1160 ≡ true
is_unseen-last_hangul_filler = refl

is_unseen-hangul_vowel : is_unseen 0x1161 ≡ false
is_unseen-hangul_vowel = refl

is_unseen-before_khmer_vowels : is_unseen 0x17B3 ≡ false
is_unseen-before_khmer_vowels = refl

is_unseen-first_khmer_vowel : is_unseen 0x17B4 ≡ true
is_unseen-first_khmer_vowel = refl

is_unseen-last_khmer_vowel : is_unseen 0x17B5 ≡ true
is_unseen-last_khmer_vowel = refl

is_unseen-khmer_sign : is_unseen 0x17B6 ≡ false
is_unseen-khmer_sign = refl

is_unseen-before_mongolian : is_unseen 0x180A ≡ false
is_unseen-before_mongolian = refl

is_unseen-first_mongolian : is_unseen 0x180B ≡ true
is_unseen-first_mongolian = refl

is_unseen-last_mongolian : is_unseen 0x180F ≡ true
is_unseen-last_mongolian = refl

is_unseen-mongolian_digit : is_unseen 0x1810 ≡ false
is_unseen-mongolian_digit = refl

is_unseen-before_spaces : is_unseen 0x200A ≡ false
is_unseen-before_spaces = refl

is_unseen-first_space : is_unseen 0x200B ≡ true
is_unseen-first_space = refl

is_unseen-last_mark : is_unseen 0x200F ≡ true
is_unseen-last_mark = refl

is_unseen-hyphen : is_unseen 0x2010 ≡ false
is_unseen-hyphen = refl

is_unseen-bullet : is_unseen 0x2027 ≡ false
is_unseen-bullet = refl

is_unseen-line_separator : is_unseen 0x2028 ≡ true
is_unseen-line_separator = refl

is_unseen-last_override : is_unseen 0x202E ≡ true
is_unseen-last_override = refl

is_unseen-narrow_space : is_unseen 0x202F ≡ false
is_unseen-narrow_space = refl

is_unseen-mathematical_space : is_unseen 0x205F ≡ false
is_unseen-mathematical_space = refl

is_unseen-word_joiner : is_unseen 0x2060 ≡ true
is_unseen-word_joiner = refl

is_unseen-last_shape : is_unseen 0x206F ≡ true
is_unseen-last_shape = refl

is_unseen-superscript : is_unseen 0x2070 ≡ false
is_unseen-superscript = refl

is_unseen-hangul_letter : is_unseen 0x3163 ≡ false
is_unseen-hangul_letter = refl

is_unseen-hangul_filler : is_unseen 0x3164 ≡ true
is_unseen-hangul_filler = refl

is_unseen-hangul_old_letter : is_unseen 0x3165 ≡ false
is_unseen-hangul_old_letter = refl

is_unseen-before_variations : is_unseen 0xFDFF ≡ false
is_unseen-before_variations = refl

is_unseen-first_variation : is_unseen 0xFE00 ≡ true
is_unseen-first_variation = refl

is_unseen-last_variation : is_unseen 0xFE0F ≡ true
is_unseen-last_variation = refl

is_unseen-vertical_comma : is_unseen 0xFE10 ≡ false
is_unseen-vertical_comma = refl

is_unseen-mark : is_unseen 0xFEFF ≡ true
is_unseen-mark = refl

is_unseen-halfwidth_circle : is_unseen 0xFF9F ≡ false
is_unseen-halfwidth_circle = refl

is_unseen-halfwidth_filler : is_unseen 0xFFA0 ≡ true
is_unseen-halfwidth_filler = refl

is_unseen-halfwidth_letter : is_unseen 0xFFA1 ≡ false
is_unseen-halfwidth_letter = refl

is_unseen-before_specials : is_unseen 0xFFEF ≡ false
is_unseen-before_specials = refl

is_unseen-first_special : is_unseen 0xFFF0 ≡ true
is_unseen-first_special = refl

is_unseen-terminator : is_unseen 0xFFFB ≡ true
is_unseen-terminator = refl

is_unseen-object : is_unseen 0xFFFC ≡ false
is_unseen-object = refl

is_unseen-before_shorthand : is_unseen 0x1BC9F ≡ false
is_unseen-before_shorthand = refl

is_unseen-first_shorthand : is_unseen 0x1BCA0 ≡ true
is_unseen-first_shorthand = refl

is_unseen-last_shorthand : is_unseen 0x1BCA3 ≡ true
is_unseen-last_shorthand = refl

is_unseen-after_shorthand : is_unseen 0x1BCA4 ≡ false
is_unseen-after_shorthand = refl

is_unseen-before_music : is_unseen 0x1D172 ≡ false
is_unseen-before_music = refl

is_unseen-first_music : is_unseen 0x1D173 ≡ true
is_unseen-first_music = refl

is_unseen-last_music : is_unseen 0x1D17A ≡ true
is_unseen-last_music = refl

is_unseen-after_music : is_unseen 0x1D17B ≡ false
is_unseen-after_music = refl

is_unseen-last_before_tags : is_unseen 0xDFFFF ≡ false
is_unseen-last_before_tags = refl

is_unseen-first_tag : is_unseen 0xE0000 ≡ true
is_unseen-first_tag = refl

is_unseen-last_tag : is_unseen 0xE0FFF ≡ true
is_unseen-last_tag = refl

is_unseen-after_tags : is_unseen 0xE1000 ≡ false
is_unseen-after_tags = refl

-- the letter, and then a control
shown_text-of_two : shown_text (0x61 ∷ 0x1B ∷ []) ≡ codes "a<U+001B>"
unfolding digits padded_integral char_count lib.Utf8.encode
shown_text-of_two = refl
