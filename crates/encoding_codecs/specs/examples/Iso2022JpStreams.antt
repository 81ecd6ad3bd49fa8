-- Examples of ISO-2022-JP, worked by hand.
use Rattle.std.specs.Prelude.{◌≡◌, ℕ, List, [], ◌∷◌, ◌++◌, replicate, refl, map}
use Rattle.encoding_mem.specs.declared.codec.reference.Reference.TheVariants.{Decimal}
use Rattle.encoding_mem.specs.Coding.{output, open_from}
use Rattle.encoding_mem.specs.Piece.{well_formed, malformed}
use Rattle.encoding_mem.specs.Pieces.{pieces_in}
use Rattle.encoding_mem.specs.declared.codec.form.Form.TheVariants.{Mapped, Unmapped}
use Rattle.encoding_mem.specs.declared.codec.form.EscapeState.TheVariants.{Ascii, Roman, Jis}
use Rattle.encoding_codecs.specs.Iso2022Jp.{cut_at_escapes, pieces_in_mode, pieces_iso_2022_jp}
use Rattle.encoding_codecs.specs.Iso2022JpForms.{iso_2022_jp_form, iso_2022_jp_coding}

-- lists for examples: U+3002 at pointer 2, U+FF0D at 3, U+30CF at 422; and U+3002 for U+FF61
jis0208 : List ℕ
jis0208 = 0 ∷ 0 ∷ 0x3002 ∷ 0xFF0D ∷ replicate 418 0 ++ (0x30CF ∷ [])

katakana : List ℕ
katakana = 0x3002 ∷ 0 ∷ []

-- ---- pieces

cut_before_each_1B : cut_at_escapes (0x41 ∷ 0x1B ∷ 0x28 ∷ 0x1B ∷ 0x1B ∷ 0x42 ∷ []) ≡ (0x41 ∷ []) ∷ (0x1B ∷ 0x28 ∷ []) ∷ (0x1B ∷ []) ∷ (0x1B ∷ 0x42 ∷ []) ∷ []
cut_before_each_1B = refl

escape_before_escape : pieces_iso_2022_jp jis0208 (0x1B ∷ 0x28 ∷ 0x42 ∷ 0x1B ∷ 0x28 ∷ 0x4A ∷ []) ≡ malformed 3 ∷ well_formed 3 [] ∷ []
unfolding pieces_in_mode pieces_in
escape_before_escape = refl

no_whole_escape : pieces_iso_2022_jp jis0208 (0x1B ∷ 0x24 ∷ 0x41 ∷ []) ≡ malformed 1 ∷ well_formed 1 (0x24 ∷ []) ∷ well_formed 1 (0x41 ∷ []) ∷ []
unfolding pieces_in_mode pieces_in
no_whole_escape = refl

-- a malformed escape changes the mode too
three_escapes : pieces_iso_2022_jp jis0208 (0x1B ∷ 0x24 ∷ 0x42 ∷ 0x1B ∷ 0x28 ∷ 0x42 ∷ 0x1B ∷ 0x28 ∷ 0x4A ∷ 0x5C ∷ [])
    ≡ malformed 3 ∷ malformed 3 ∷ well_formed 3 [] ∷ well_formed 1 (0xA5 ∷ []) ∷ []
unfolding pieces_in_mode pieces_in
three_escapes = refl

-- what follows a prefix of an escape is read in the mode of the escape before it
malformed_escape_in_katakana : pieces_iso_2022_jp jis0208 (0x1B ∷ 0x28 ∷ 0x49 ∷ 0x1B ∷ 0x28 ∷ 0x21 ∷ []) ≡ well_formed 3 [] ∷ malformed 1 ∷ well_formed 1 (0xFF68 ∷ []) ∷ well_formed 1 (0xFF61 ∷ []) ∷ []
unfolding pieces_in_mode pieces_in
malformed_escape_in_katakana = refl

katakana_bytes : pieces_iso_2022_jp jis0208 (0x1B ∷ 0x28 ∷ 0x49 ∷ 0x21 ∷ 0x5F ∷ 0x60 ∷ []) ≡ well_formed 3 [] ∷ well_formed 1 (0xFF61 ∷ []) ∷ well_formed 1 (0xFF9F ∷ []) ∷ malformed 1 ∷ []
unfolding pieces_in_mode pieces_in
katakana_bytes = refl

there_and_back : pieces_iso_2022_jp jis0208 (0x41 ∷ 0x1B ∷ 0x24 ∷ 0x42 ∷ 0x25 ∷ 0x4F ∷ 0x1B ∷ 0x28 ∷ 0x42 ∷ 0x42 ∷ [])
    ≡ well_formed 1 (0x41 ∷ []) ∷ well_formed 3 [] ∷ well_formed 2 (0x30CF ∷ []) ∷ well_formed 3 [] ∷ well_formed 1 (0x42 ∷ []) ∷ []
unfolding pieces_in_mode pieces_in jis0208
there_and_back = refl

-- a first byte before 1B, before a wrong second byte, before one without an entry, and at the end
half_a_character : pieces_iso_2022_jp jis0208 (0x1B ∷ 0x24 ∷ 0x40 ∷ 0x25 ∷ 0x1B ∷ 0x24 ∷ 0x42 ∷ 0x25 ∷ 0x80 ∷ 0x21 ∷ 0x21 ∷ 0x80 ∷ 0x25 ∷ [])
    ≡ well_formed 3 [] ∷ malformed 1 ∷ well_formed 3 [] ∷ malformed 2 ∷ malformed 2 ∷ malformed 1 ∷ malformed 1 ∷ []
unfolding pieces_in_mode pieces_in jis0208
half_a_character = refl

shift_out : pieces_iso_2022_jp jis0208 (0x0E ∷ 0x41 ∷ 0x80 ∷ []) ≡ malformed 1 ∷ well_formed 1 (0x41 ∷ []) ∷ malformed 1 ∷ []
unfolding pieces_in_mode pieces_in
shift_out = refl

-- ---- forms

yen_sign : output Decimal (iso_2022_jp_coding jis0208 katakana) (0xA5 ∷ []) ≡ 0x1B ∷ 0x28 ∷ 0x4A ∷ 0x5C ∷ 0x1B ∷ 0x28 ∷ 0x42 ∷ []
yen_sign = refl

half_width_katakana : output Decimal (iso_2022_jp_coding jis0208 katakana) (0xFF61 ∷ []) ≡ 0x1B ∷ 0x24 ∷ 0x42 ∷ 0x21 ∷ 0x23 ∷ 0x1B ∷ 0x28 ∷ 0x42 ∷ []
unfolding jis0208 katakana
half_width_katakana = refl

katakana_without_entry : iso_2022_jp_form jis0208 katakana 0xFF62 ≡ Unmapped 0xFF62
unfolding jis0208 katakana
katakana_without_entry = refl

minus_sign : iso_2022_jp_form jis0208 katakana 0x2212 ≡ Mapped (0x21 ∷ 0x24 ∷ [])
unfolding jis0208
minus_sign = refl

shift_out_is_lost : iso_2022_jp_form jis0208 katakana 0x0E ≡ Unmapped 0xFFFD
shift_out_is_lost = refl

-- Roman stays if it may: at 5C it has another character
roman_stays : open_from Decimal (iso_2022_jp_coding jis0208 katakana) Roman (0x41 ∷ 0x5C ∷ []) ≡ 0x41 ∷ 0x1B ∷ 0x28 ∷ 0x42 ∷ 0x5C ∷ []
roman_stays = refl

-- what is lost is reported in ASCII or in Roman
lost_from_jis : (iso_2022_jp_coding jis0208 katakana).set Jis 0x1F4A9 ≡ Ascii
unfolding jis0208
lost_from_jis = refl

lost_in_roman : (iso_2022_jp_coding jis0208 katakana).set Roman 0x1F4A9 ≡ Roman
unfolding jis0208
lost_in_roman = refl

-- ---- limits

-- U+3000 at the pointer 0, U+25C7 at 93, U+25C6 at 94, U+4E9C at 1410 and U+4E00 at 8835: 21 21, 21 7E, 22 21, 30 21 and 7E 7E
unfoldable corners : List ℕ
corners = 0x3000 ∷ (replicate 92 0 ++ (0x25C7 ∷ 0x25C6 ∷ (replicate 1315 0 ++ (0x4E9C ∷ (replicate 7424 0 ++ (0x4E00 ∷ []))))))

pairs_are_read : pieces_iso_2022_jp corners (0x1B ∷ 0x24 ∷ 0x42 ∷ 0x21 ∷ 0x21 ∷ 0x21 ∷ 0x7E ∷ 0x22 ∷ 0x21 ∷ 0x30 ∷ 0x21 ∷ 0x7E ∷ 0x7E ∷ [])
    ≡ well_formed 3 [] ∷ well_formed 2 (0x3000 ∷ []) ∷ well_formed 2 (0x25C7 ∷ []) ∷ well_formed 2 (0x25C6 ∷ []) ∷ well_formed 2 (0x4E9C ∷ []) ∷ well_formed 2 (0x4E00 ∷ []) ∷ []
unfolding pieces_in_mode pieces_in corners
pairs_are_read = refl

pairs_are_written : map (iso_2022_jp_form corners []) (0x3000 ∷ 0x25C7 ∷ 0x25C6 ∷ 0x4E9C ∷ 0x4E00 ∷ [])
    ≡ Mapped (0x21 ∷ 0x21 ∷ []) ∷ Mapped (0x21 ∷ 0x7E ∷ []) ∷ Mapped (0x22 ∷ 0x21 ∷ []) ∷ Mapped (0x30 ∷ 0x21 ∷ []) ∷ Mapped (0x7E ∷ 0x7E ∷ []) ∷ []
unfolding corners
pairs_are_written = refl

-- pointers from 8836 on, which two bytes do not reach, are not written
behind_the_last : iso_2022_jp_form (replicate 8836 0 ++ (0x4E00 ∷ [])) [] 0x4E00 ≡ Unmapped 0x4E00
behind_the_last = refl

-- 20 and 7F are neither first nor second bytes, whatever the index holds
no_pairs : pieces_iso_2022_jp (replicate 200 0x4E00) (0x1B ∷ 0x24 ∷ 0x42 ∷ 0x20 ∷ 0x7F ∷ 0x21 ∷ 0x20 ∷ 0x21 ∷ 0x7F ∷ 0x22 ∷ 0x20 ∷ 0x22 ∷ 0x7F ∷ [])
    ≡ well_formed 3 [] ∷ malformed 1 ∷ malformed 1 ∷ malformed 2 ∷ malformed 2 ∷ malformed 2 ∷ malformed 2 ∷ []
unfolding pieces_in_mode pieces_in
no_pairs = refl

no_first_byte : pieces_iso_2022_jp (replicate 8930 0x4E00) (0x1B ∷ 0x24 ∷ 0x42 ∷ 0x7F ∷ 0x21 ∷ 0x21 ∷ [])
    ≡ well_formed 3 [] ∷ malformed 1 ∷ well_formed 2 (0x4E00 ∷ []) ∷ []
unfolding pieces_in_mode pieces_in
no_first_byte = refl

-- 5C and 7E are U+00A5 and U+203E in Roman, and other bytes what they are in ASCII
roman_bytes : pieces_iso_2022_jp [] (0x1B ∷ 0x28 ∷ 0x4A ∷ 0x5B ∷ 0x5C ∷ 0x5D ∷ 0x7D ∷ 0x7E ∷ 0x7F ∷ 0x0E ∷ 0x0F ∷ 0x80 ∷ [])
    ≡ well_formed 3 [] ∷ well_formed 1 (0x5B ∷ []) ∷ well_formed 1 (0xA5 ∷ []) ∷ well_formed 1 (0x5D ∷ []) ∷ well_formed 1 (0x7D ∷ []) ∷ well_formed 1 (0x203E ∷ []) ∷ well_formed 1 (0x7F ∷ []) ∷ malformed 1 ∷ malformed 1 ∷ malformed 1 ∷ []
unfolding pieces_in_mode pieces_in
roman_bytes = refl

-- 0E, 0F and 1B are malformed in ASCII, the controls beside them are not
controls : pieces_iso_2022_jp [] (0x0D ∷ 0x0E ∷ 0x0F ∷ 0x10 ∷ 0x1A ∷ 0x1B ∷ 0x1C ∷ 0x5C ∷ 0x7E ∷ 0x7F ∷ 0x80 ∷ [])
    ≡ well_formed 1 (0x0D ∷ []) ∷ malformed 1 ∷ malformed 1 ∷ well_formed 1 (0x10 ∷ []) ∷ well_formed 1 (0x1A ∷ []) ∷ malformed 1 ∷ well_formed 1 (0x1C ∷ []) ∷ well_formed 1 (0x5C ∷ []) ∷ well_formed 1 (0x7E ∷ []) ∷ well_formed 1 (0x7F ∷ []) ∷ malformed 1 ∷ []
unfolding pieces_in_mode pieces_in
controls = refl

-- halfwidth katakana is 21 to 5F
katakana_ends : pieces_iso_2022_jp [] (0x1B ∷ 0x28 ∷ 0x49 ∷ 0x20 ∷ 0x21 ∷ 0x5F ∷ 0x60 ∷ [])
    ≡ well_formed 3 [] ∷ malformed 1 ∷ well_formed 1 (0xFF61 ∷ []) ∷ well_formed 1 (0xFF9F ∷ []) ∷ malformed 1 ∷ []
unfolding pieces_in_mode pieces_in
katakana_ends = refl

-- 1B 24 40 and 1B 24 42 both go to pairs; 1B 24 28 42 and 1B 29 42 are no escapes
both_to_pairs : pieces_iso_2022_jp corners (0x1B ∷ 0x24 ∷ 0x40 ∷ 0x21 ∷ 0x21 ∷ 0x1B ∷ 0x24 ∷ 0x42 ∷ 0x21 ∷ 0x21 ∷ [])
    ≡ well_formed 3 [] ∷ well_formed 2 (0x3000 ∷ []) ∷ well_formed 3 [] ∷ well_formed 2 (0x3000 ∷ []) ∷ []
unfolding pieces_in_mode pieces_in corners
both_to_pairs = refl

other_escapes : pieces_iso_2022_jp [] (0x1B ∷ 0x24 ∷ 0x28 ∷ 0x1B ∷ 0x29 ∷ 0x42 ∷ 0x1B ∷ 0x28 ∷ 0x48 ∷ [])
    ≡ malformed 1 ∷ well_formed 1 (0x24 ∷ []) ∷ well_formed 1 (0x28 ∷ []) ∷ malformed 1 ∷ well_formed 1 (0x29 ∷ []) ∷ well_formed 1 (0x42 ∷ []) ∷ malformed 1 ∷ well_formed 1 (0x28 ∷ []) ∷ well_formed 1 (0x48 ∷ []) ∷ []
unfolding pieces_in_mode pieces_in
other_escapes = refl

-- ---- what is written

overline : output Decimal (iso_2022_jp_coding [] []) (0x203E ∷ []) ≡ 0x1B ∷ 0x28 ∷ 0x4A ∷ 0x7E ∷ 0x1B ∷ 0x28 ∷ 0x42 ∷ []
overline = refl

-- U+000E, U+000F and U+001B are unmappable, and reported as U+FFFD
lost_controls : map (iso_2022_jp_form [] []) (0x0D ∷ 0x0E ∷ 0x0F ∷ 0x10 ∷ 0x1A ∷ 0x1B ∷ 0x1C ∷ 0x7F ∷ [])
    ≡ Mapped (0x0D ∷ []) ∷ Unmapped 0xFFFD ∷ Unmapped 0xFFFD ∷ Mapped (0x10 ∷ []) ∷ Mapped (0x1A ∷ []) ∷ Unmapped 0xFFFD ∷ Mapped (0x1C ∷ []) ∷ Mapped (0x7F ∷ []) ∷ []
lost_controls = refl

no_form : map (iso_2022_jp_form [] []) (0x80 ∷ 0xA4 ∷ 0xA6 ∷ 0x203D ∷ 0x203F ∷ 0xFF60 ∷ 0xFFA0 ∷ [])
    ≡ map Unmapped (0x80 ∷ 0xA4 ∷ 0xA6 ∷ 0x203D ∷ 0x203F ∷ 0xFF60 ∷ 0xFFA0 ∷ [])
no_form = refl

-- from Roman only U+005C and U+007E go to ASCII; from JIS each does
from_roman : map (λ c. open_from Decimal (iso_2022_jp_coding [] []) Roman (c ∷ [])) (0x5B ∷ 0x5C ∷ 0x5D ∷ 0x7D ∷ 0x7E ∷ 0x7F ∷ [])
    ≡ (0x5B ∷ []) ∷ (0x1B ∷ 0x28 ∷ 0x42 ∷ 0x5C ∷ []) ∷ (0x5D ∷ []) ∷ (0x7D ∷ []) ∷ (0x1B ∷ 0x28 ∷ 0x42 ∷ 0x7E ∷ []) ∷ (0x7F ∷ []) ∷ []
from_roman = refl

from_jis : map (λ c. open_from Decimal (iso_2022_jp_coding [] []) Jis (c ∷ [])) (0x5B ∷ 0x5C ∷ 0x7E ∷ 0xA5 ∷ 0x203E ∷ [])
    ≡ (0x1B ∷ 0x28 ∷ 0x42 ∷ 0x5B ∷ []) ∷ (0x1B ∷ 0x28 ∷ 0x42 ∷ 0x5C ∷ []) ∷ (0x1B ∷ 0x28 ∷ 0x42 ∷ 0x7E ∷ []) ∷ (0x1B ∷ 0x28 ∷ 0x4A ∷ 0x5C ∷ []) ∷ (0x1B ∷ 0x28 ∷ 0x4A ∷ 0x7E ∷ []) ∷ []
from_jis = refl

-- U+00A5 and U+203E stay in Roman, a pair stays in JIS; ASCII needs no escape in ASCII
no_escapes : (open_from Decimal (iso_2022_jp_coding [] []) Roman (0xA5 ∷ 0x203E ∷ []) ≡ 0x5C ∷ 0x7E ∷ [])
    × (open_from Decimal (iso_2022_jp_coding corners []) Jis (0x3000 ∷ 0x25C7 ∷ []) ≡ 0x21 ∷ 0x21 ∷ 0x21 ∷ 0x7E ∷ [])
    × (output Decimal (iso_2022_jp_coding [] []) (0x5C ∷ 0x7E ∷ []) ≡ 0x5C ∷ 0x7E ∷ [])
unfolding corners
no_escapes = (refl, refl, refl)

-- pairs from ASCII and from Roman
to_pairs : (open_from Decimal (iso_2022_jp_coding corners []) Ascii (0x3000 ∷ []) ≡ 0x1B ∷ 0x24 ∷ 0x42 ∷ 0x21 ∷ 0x21 ∷ [])
    × (open_from Decimal (iso_2022_jp_coding corners []) Roman (0x3000 ∷ []) ≡ 0x1B ∷ 0x24 ∷ 0x42 ∷ 0x21 ∷ 0x21 ∷ [])
unfolding corners
to_pairs = (refl, refl)

-- halfwidth katakana is looked up by its index: U+FF71, its entry 16, as U+30A2, which is at 377
unfoldable small_katakana : List ℕ
small_katakana = replicate 16 0 ++ (0x30A2 ∷ [])

katakana_as_wide : iso_2022_jp_form (replicate 377 0 ++ (0x30A2 ∷ [])) small_katakana 0xFF71 ≡ Mapped (0x25 ∷ 0x22 ∷ [])
unfolding small_katakana
katakana_as_wide = refl

last_katakana : map (iso_2022_jp_form (0x309C ∷ []) (replicate 62 0 ++ (0x309C ∷ []))) (0xFF9E ∷ 0xFF9F ∷ 0xFFA0 ∷ [])
    ≡ Unmapped 0xFF9E ∷ Mapped (0x21 ∷ 0x21 ∷ []) ∷ Unmapped 0xFFA0 ∷ []
last_katakana = refl

-- U+2212 is looked up as U+FF0D, and reported as itself
looked_up : (iso_2022_jp_form (0x2212 ∷ 0xFF0D ∷ []) [] 0x2212 ≡ Mapped (0x21 ∷ 0x22 ∷ [])) × (iso_2022_jp_form [] [] 0x2212 ≡ Unmapped 0x2212)
looked_up = (refl, refl)

-- of two pointers the first is written
first_of_two : iso_2022_jp_form (0 ∷ 0x4E00 ∷ 0x4E00 ∷ []) [] 0x4E00 ≡ Mapped (0x21 ∷ 0x22 ∷ [])
first_of_two = refl
