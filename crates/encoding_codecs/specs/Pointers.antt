-- Pointers of an index as two bytes (the Encoding Standard, sections 11 to 13).
use Rattle.std.specs.Prelude.{ℕ, List, [], ◌∷◌, nat_lt, if◌then◌else◌, Option, None, Some}
use Rattle.std.specs.Option.{option_map}
use Rattle.encoding_mem.specs.Coding.{form_of_bytes}
use Rattle.encoding_mem.specs.declared.codec.form.Form.{Form}
use Rattle.encoding_mem.specs.declared.codec.form.Form.TheVariants.{Mapped}
use Rattle.encoding_codecs.specs.declared.two_byte.PairValue.{PairValue}
use Rattle.encoding_codecs.specs.declared.two_byte.PairValue.TheVariants.{NoChar, OneChar}

-- what a lead and a trail give by the entry at their pointer: its character, or none without one
abbrev pub value_of_entry : Option ℕ → PairValue
value_of_entry None = NoChar
value_of_entry (Some c) = OneChar c

-- the form of a character: its own byte if it is ASCII, else the bytes of the pointer that an
-- index has for it, or that it is unmappable if it has no pointer
abbrev pub form_by_pointer : (ℕ → List ℕ) → (ℕ → Option ℕ) → ℕ → Form
form_by_pointer bytes_of pointer_of c = if nat_lt c 0x80 then Mapped (c ∷ []) else form_of_bytes c (option_map bytes_of (pointer_of c))
