-- Worked rows of `specs/Items.antt`: bytes of the output and notes for the log, in their order. The sample target has
-- a yen sign as 5C in Roman and あ as 24 22 in JIS; U+FFFD, é and Ê have no bytes there.
use Rattle.std.specs.Prelude.{◌≡◌, nat_eq, if◌then◌else◌, true, false, [], ◌∷◌, ◌++◌, map, codes, refl}
use Rattle.std.specs.Char.{encode_utf8}
use Rattle.std.specs.Fmt.{digits}
use Rattle.encoding_mem.specs.declared.codec.reference.Reference.TheVariants.{Decimal}
use Rattle.encoding_mem.specs.Piece.{well_formed, malformed}
use Rattle.encoding_mem.specs.Items.{Byte, MalformedAt, LostAt, item_bytes, whole_items, trace_from}
use Rattle.encoding_mem.specs.Coding.{Coding}
use Rattle.encoding_mem.specs.Utf8Coding.{utf8_coding}
use Rattle.encoding_mem.specs.examples.SampleCoding.{sample_coding}
use Rattle.encoding_mem.specs.declared.codec.form.Form.TheVariants.{Mapped}
use Rattle.encoding_mem.specs.declared.codec.form.EscapeState.TheVariants.{Ascii, Jis}

-- the bytes without the notes
bytes_alone : item_bytes (MalformedAt 0 1 ∷ Byte 0x41 ∷ LostAt 1 0xE9 ∷ Byte 0x42 ∷ []) ≡ 0x41 ∷ 0x42 ∷ []
bytes_alone = refl

-- a text that is not the last is left in its set; the last one goes back to ASCII
open_text : whole_items Decimal sample_coding false Ascii 0 (0x3042 ∷ []) ≡ map Byte (0x1B ∷ 0x24 ∷ 0x42 ∷ 0x24 ∷ 0x22 ∷ [])
open_text = refl

last_text : whole_items Decimal sample_coding true Ascii 0 (0x3042 ∷ []) ≡ map Byte (0x1B ∷ 0x24 ∷ 0x42 ∷ 0x24 ∷ 0x22 ∷ 0x1B ∷ 0x28 ∷ 0x42 ∷ [])
last_text = refl

-- a malformed sequence alone, of two bytes, whose U+FFFD has bytes in the target
malformed_alone : trace_from Decimal utf8_coding Ascii 0 0 (malformed 2 ∷ []) ≡ MalformedAt 0 2 ∷ map Byte (0xEF ∷ 0xBF ∷ 0xBD ∷ [])
unfolding encode_utf8
malformed_alone = refl

-- `A`, €, a byte that begins nothing, `B`: the offset counts bytes
offset_in_bytes : trace_from Decimal utf8_coding Ascii 0 0 (well_formed 1 (0x41 ∷ []) ∷ well_formed 3 (0x20AC ∷ []) ∷ malformed 1 ∷ well_formed 1 (0x42 ∷ []) ∷ [])
    ≡ map Byte (0x41 ∷ 0xE2 ∷ 0x82 ∷ 0xAC ∷ []) ++ (MalformedAt 4 1 ∷ map Byte (0xEF ∷ 0xBF ∷ 0xBD ∷ 0x42 ∷ []))
unfolding encode_utf8
offset_in_bytes = refl

-- a malformed sequence at the offset 7, whose character has the index 5 and is lost itself, and then a second one
malformed_and_lost : trace_from Decimal sample_coding Ascii 7 5 (malformed 2 ∷ malformed 1 ∷ [])
    ≡ (MalformedAt 7 2 ∷ LostAt 5 0xFFFD ∷ map Byte (codes "&#65533;")) ++ (MalformedAt 9 1 ∷ LostAt 6 0xFFFD ∷ map Byte (codes "&#65533;"))
unfolding digits
malformed_and_lost = refl

-- the index of a lost character counts the character of a malformed sequence of three bytes before it as one
lost_behind_malformed : trace_from Decimal sample_coding Ascii 0 0 (well_formed 1 (0x41 ∷ []) ∷ malformed 3 ∷ well_formed 2 (0xE9 ∷ []) ∷ [])
    ≡ (Byte 0x41 ∷ MalformedAt 1 3 ∷ LostAt 1 0xFFFD ∷ map Byte (codes "&#65533;")) ++ (LostAt 2 0xE9 ∷ map Byte (codes "&#233;"))
unfolding digits
lost_behind_malformed = refl

-- the two characters of one pair of bytes have an index each; after them the offset is 2 and the index also
both_of_pair : trace_from Decimal sample_coding Ascii 0 0 (well_formed 2 (0xCA ∷ 0x304 ∷ []) ∷ malformed 1 ∷ [])
    ≡ (LostAt 0 0xCA ∷ map Byte (codes "&#202;")) ++ ((LostAt 1 0x304 ∷ map Byte (codes "&#772;"))
    ++ (MalformedAt 2 1 ∷ LostAt 2 0xFFFD ∷ map Byte (codes "&#65533;")))
unfolding digits
both_of_pair = refl

-- bytes that stand for no character, as an escape that is read, count for the offset and not for the index
ignored_bytes : trace_from Decimal sample_coding Ascii 0 0 (well_formed 3 [] ∷ well_formed 1 (0xE9 ∷ []) ∷ malformed 1 ∷ [])
    ≡ (LostAt 0 0xE9 ∷ map Byte (codes "&#233;")) ++ (MalformedAt 4 1 ∷ LostAt 1 0xFFFD ∷ map Byte (codes "&#65533;"))
unfolding digits
ignored_bytes = refl

-- after あ the note of a malformed sequence stands before the escape to ASCII, and the note of the loss after it
escape_between_notes : trace_from Decimal sample_coding Ascii 0 0 (well_formed 2 (0x3042 ∷ []) ∷ malformed 1 ∷ [])
    ≡ map Byte (0x1B ∷ 0x24 ∷ 0x42 ∷ 0x24 ∷ 0x22 ∷ [])
    ++ ((MalformedAt 2 1 ∷ map Byte (0x1B ∷ 0x28 ∷ 0x42 ∷ [])) ++ (LostAt 1 0xFFFD ∷ map Byte (codes "&#65533;")))
unfolding digits
escape_between_notes = refl

-- the escape to ASCII ends the output, even if nothing is left to be read
escape_at_the_end : trace_from Decimal sample_coding Ascii 0 0 (well_formed 2 (0x3042 ∷ []) ∷ [])
    ≡ map Byte (0x1B ∷ 0x24 ∷ 0x42 ∷ 0x24 ∷ 0x22 ∷ 0x1B ∷ 0x28 ∷ 0x42 ∷ [])
escape_at_the_end = refl

nothing_left : trace_from Decimal sample_coding Jis 9 4 [] ≡ map Byte (0x1B ∷ 0x28 ∷ 0x42 ∷ [])
nothing_left = refl

-- a target for examples that has U+FFFD, as 22 2E in JIS: the set stays after a malformed sequence
abbrev with_replacement : Coding
with_replacement = record {
  form = λ c. if nat_eq c 0xFFFD then Mapped (0x22 ∷ 0x2E ∷ []) else sample_coding.form c;
  set = λ s c. if nat_eq c 0xFFFD then Jis else sample_coding.set s c;
  escape = sample_coding.escape;
}

-- two malformed sequences and `A`
set_behind_malformed : trace_from Decimal with_replacement Ascii 0 0 (malformed 1 ∷ malformed 2 ∷ well_formed 1 (0x41 ∷ []) ∷ [])
    ≡ (MalformedAt 0 1 ∷ map Byte (0x1B ∷ 0x24 ∷ 0x42 ∷ 0x22 ∷ 0x2E ∷ [])) ++ (MalformedAt 1 2 ∷ map Byte (0x22 ∷ 0x2E ∷ 0x1B ∷ 0x28 ∷ 0x42 ∷ 0x41 ∷ []))
set_behind_malformed = refl
