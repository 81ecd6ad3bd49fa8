-- How the cells of a line are shown, so that what is printed has no code that a terminal obeys but those of colour.
use Rattle.std.specs.Prelude.{ℕ, ◌^◌, ◌-◌, ◌==◌, ◌||◌, ◌++◌, Bool, true, false, List, [], ◌∷◌, if◌then◌else◌, codes, encode_utf8}
use Rattle.std.specs.Char.{is_control}
use Rattle.std.specs.Int.{is_in_range}
use Rattle.std.specs.Fmt.{digits, format_spec, padded_integral}
use Rattle.recode_places_report.specs.declared.cell.Cell.{Cell}
use Rattle.recode_places_report.specs.declared.cell.Cell.TheVariants.{Character, Byte}

-- a character that can't be seen: one that Unicode says a display may ignore (Default_Ignorable_Code_Point, which those
-- that turn the direction of a text are), a separator of lines or paragraphs, or a mark of annotations
abbrev pub is_unseen : ℕ → Bool
is_unseen c = c == 0xAD || c == 0x34F || c == 0x61C || is_in_range 0x115F 0x1160 c || is_in_range 0x17B4 0x17B5 c
    || is_in_range 0x180B 0x180F c || is_in_range 0x200B 0x200F c || is_in_range 0x2028 0x202E c || is_in_range 0x2060 0x206F c
    || c == 0x3164 || is_in_range 0xFE00 0xFE0F c || c == 0xFEFF || c == 0xFFA0 || is_in_range 0xFFF0 0xFFFB c
    || is_in_range 0x1BCA0 0x1BCA3 c || is_in_range 0x1D173 0x1D17A c || is_in_range 0xE0000 0xE0FFF c

-- a number in hexadecimal digits, with zeros before them up to a width
abbrev pub padded_hexadecimal : (width n : ℕ) → List ℕ
padded_hexadecimal width n = padded_integral (format_spec 32 0 4 width (2 ^ 64 - 1)) false [] (digits 16 true n)

-- a tab as a space, a control or what can't be seen by its number, a byte as one
abbrev pub shown_as : Cell → List ℕ
shown_as (Character c) = if c == 9 then codes " " else (if is_control c || is_unseen c then codes "<U+" ++ padded_hexadecimal 4 c ++ codes ">" else encode_utf8 c)
shown_as (Byte byte) = codes "<" ++ padded_hexadecimal 2 byte ++ codes ">"

-- a text as its characters are shown
abbrev pub shown_text : List ℕ → List ℕ
shown_text [] = []
shown_text (c ∷ t) = shown_as (Character c) ++ shown_text t
