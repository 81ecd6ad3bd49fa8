-- Examples of what a target writes, worked by hand.
use Rattle.std.specs.Prelude.{◌≡◌, [], ◌∷◌, map, codes, refl}
use Rattle.std.specs.Char.{encode_utf8}
use Rattle.std.specs.Fmt.{digits}
use Rattle.encoding_mem.specs.declared.codec.reference.Reference.TheVariants.{Decimal, Hexadecimal}
use Rattle.encoding_mem.specs.Coding.{reference_bytes, output}
use Rattle.encoding_mem.specs.Items.{Byte, LostAt, open_items}
use Rattle.encoding_mem.specs.Utf8Coding.{utf8_coding}
use Rattle.encoding_mem.specs.examples.SampleCoding.{sample_coding}
use Rattle.encoding_mem.specs.declared.codec.form.EscapeState.TheVariants.{Ascii, Jis}

-- the reference of U+FFFD
pub replacement_reference : reference_bytes Decimal 65533 ≡ codes "&#65533;"
unfolding digits
replacement_reference = refl

-- the hexadecimal ones of U+FFFD and U+1F4A9, whose digits are in upper case, with no zero before them
pub hexadecimal_references : (reference_bytes Hexadecimal 0xFFFD ≡ codes "&#xFFFD;") × (reference_bytes Hexadecimal 0x1F4A9 ≡ codes "&#x1F4A9;")
unfolding digits
hexadecimal_references = (refl, refl)

-- a character of each length in UTF-8
pub utf8_of_each_length : output Decimal utf8_coding (0x41 ∷ 0xE9 ∷ 0x20AC ∷ 0x1F4A9 ∷ [])
    ≡ 0x41 ∷ 0xC3 ∷ 0xA9 ∷ 0xE2 ∷ 0x82 ∷ 0xAC ∷ 0xF0 ∷ 0x9F ∷ 0x92 ∷ 0xA9 ∷ []
unfolding encode_utf8
utf8_of_each_length = refl

-- the note of a lost character stands before its reference
pub note_before_reference : open_items Decimal sample_coding Ascii 7 (0xE9 ∷ []) ≡ LostAt 7 0xE9 ∷ map Byte (codes "&#233;")
unfolding digits
note_before_reference = refl

-- its escape stands before its note
pub escape_before_note : open_items Decimal sample_coding Jis 7 (0xE9 ∷ [])
    ≡ Byte 0x1B ∷ Byte 0x28 ∷ Byte 0x42 ∷ LostAt 7 0xE9 ∷ map Byte (codes "&#233;")
unfolding digits
escape_before_note = refl

-- the escape to ASCII ends a text in JIS, if it is the last
pub final_escape : output Decimal sample_coding (0x3042 ∷ []) ≡ 0x1B ∷ 0x24 ∷ 0x42 ∷ 0x24 ∷ 0x22 ∷ 0x1B ∷ 0x28 ∷ 0x42 ∷ []
final_escape = refl
