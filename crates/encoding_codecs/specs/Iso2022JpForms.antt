-- What is written in ISO-2022-JP, by the lists of the indexes jis0208 and iso-2022-jp-katakana (the Encoding Standard,
-- section 12.2.2, "ISO-2022-JP encoder").
use Rattle.std.specs.Prelude.{ℕ, ◌+◌, ◌-◌, ◌/◌, ◌%◌, ◌==◌, ◌||◌, List, [], ◌∷◌, nat_lt, if◌then◌else◌, Option, Some}
use Rattle.std.specs.Option.{option_map, option_and_then}
use Rattle.encoding_mem.specs.Coding.{Coding, form_of_bytes}
use Rattle.encoding_mem.specs.declared.codec.form.Form.{Form}
use Rattle.encoding_mem.specs.declared.codec.form.Form.TheVariants.{Mapped, Unmapped}
use Rattle.encoding_mem.specs.declared.codec.form.EscapeState.{EscapeState}
use Rattle.encoding_mem.specs.declared.codec.form.EscapeState.TheVariants.{Ascii, Roman, Jis}
use Rattle.encoding_tables.specs.Lookups.{value_of, first_pointer}
use Rattle.encoding_codecs.specs.JisForms.{is_katakana, folded}

-- ---- the bytes of a character

-- what ISO-2022-JP looks up in jis0208 for a character, if anything: for U+FF61 + k up to U+FF9F
-- entry k of iso-2022-jp-katakana, for U+2212 U+FF0D, else itself
abbrev pub looked_up : List ℕ → ℕ → Option ℕ
looked_up katakana c = if is_katakana c then value_of katakana (c - 0xFF61) else Some (folded c)

-- the least jis0208 pointer below 8836 of what ISO-2022-JP looks up for a character, if it has one
abbrev pub iso_2022_jp_pointer : List ℕ → List ℕ → ℕ → Option ℕ
iso_2022_jp_pointer jis0208 katakana c = option_and_then (λ d. first_pointer jis0208 d 0 8836) (looked_up katakana c)

-- the two bytes of a jis0208 pointer in ISO-2022-JP, each from 21 on: 94 for each first byte
abbrev pub iso_2022_jp_pair_bytes : ℕ → List ℕ
iso_2022_jp_pair_bytes p = (0x21 + p / 94) ∷ (0x21 + p % 94) ∷ []

-- the form of an ASCII character in ISO-2022-JP: its byte, but 0E, 0F and 1B have none and are
-- reported as U+FFFD
abbrev pub ascii_form : ℕ → Form
ascii_form c = if c == 0x0E || c == 0x0F || c == 0x1B then Unmapped 0xFFFD else Mapped (c ∷ [])

-- the form of a character in ISO-2022-JP, escapes apart: its one or two bytes, or that it has none
abbrev pub iso_2022_jp_form : List ℕ → List ℕ → ℕ → Form
iso_2022_jp_form jis0208 katakana c = if nat_lt c 0x80 then ascii_form c
    else (if c == 0xA5 then Mapped (0x5C ∷ []) else (if c == 0x203E then Mapped (0x7E ∷ [])
    else form_of_bytes c (option_map iso_2022_jp_pair_bytes (iso_2022_jp_pointer jis0208 katakana c))))

-- ---- the sets

-- the set of what is in ASCII and in Roman, in ISO-2022-JP: that of the two which is in force, or
-- ASCII if JIS X 0208 is
abbrev pub ascii_or_roman : EscapeState → EscapeState
ascii_or_roman Jis = Ascii
ascii_or_roman s = s

-- The set in which a character with a given form is written in ISO-2022-JP, by the set in force:
-- JIS X 0208 if it has two bytes, else ASCII for 5C and 7E, Roman for U+00A5 and U+203E, and ASCII
-- or Roman for what is left, also if it has no bytes.
abbrev pub iso_2022_jp_set : EscapeState → ℕ → Form → EscapeState
iso_2022_jp_set s c (Mapped (_ ∷ _ ∷ [])) = Jis
iso_2022_jp_set s c form = if c == 0x5C || c == 0x7E then Ascii else if c == 0xA5 || c == 0x203E then Roman else ascii_or_roman s

-- the escape from one set to another: 1B 28 42 to ASCII, 1B 28 4A to Roman, 1B 24 42 to JIS X 0208,
-- or no bytes if the two are equal
abbrev pub iso_2022_jp_escape : EscapeState → EscapeState → List ℕ
iso_2022_jp_escape Ascii Ascii = []
iso_2022_jp_escape Roman Roman = []
iso_2022_jp_escape Jis Jis = []
iso_2022_jp_escape _ Ascii = 0x1B ∷ 0x28 ∷ 0x42 ∷ []
iso_2022_jp_escape _ Roman = 0x1B ∷ 0x28 ∷ 0x4A ∷ []
iso_2022_jp_escape _ Jis = 0x1B ∷ 0x24 ∷ 0x42 ∷ []

-- the "ISO-2022-JP encoder" (section 12.2.2): form and set of each character, escapes between sets
abbrev pub iso_2022_jp_coding : List ℕ → List ℕ → Coding
iso_2022_jp_coding jis0208 katakana = let form : ℕ → Form = iso_2022_jp_form jis0208 katakana in
    record { form = form; set = λ s c. iso_2022_jp_set s c (form c); escape = iso_2022_jp_escape }
