-- Worked rows of `specs/Utf8.antt`.
use Rattle.std.specs.Prelude.{◌≡◌, [], ◌∷◌, refl}
use Rattle.encoding_mem.specs.Piece.{well_formed, malformed}
use Rattle.encoding_mem.specs.Pieces.{pieces_in}
use Rattle.encoding_mem.specs.Utf8.{pieces_utf8}

-- `Aé`
two_characters : pieces_utf8 (0x41 ∷ 0xC3 ∷ 0xA9 ∷ []) ≡ well_formed 1 (0x41 ∷ []) ∷ well_formed 2 (0xE9 ∷ []) ∷ []
unfolding pieces_in
two_characters = refl

-- a surrogate is three malformed sequences between two letters
surrogate : pieces_utf8 (0x61 ∷ 0xED ∷ 0xA0 ∷ 0x80 ∷ 0x5A ∷ [])
    ≡ well_formed 1 (0x61 ∷ []) ∷ malformed 1 ∷ malformed 1 ∷ malformed 1 ∷ well_formed 1 (0x5A ∷ []) ∷ []
unfolding pieces_in
surrogate = refl

-- `€`, and a byte that begins nothing
euro_sign : pieces_utf8 (0xE2 ∷ 0x82 ∷ 0xAC ∷ 0x80 ∷ []) ≡ well_formed 3 (0x20AC ∷ []) ∷ malformed 1 ∷ []
unfolding pieces_in
euro_sign = refl

-- a sequence that the end cuts
cut_sequence : pieces_utf8 (0xC3 ∷ []) ≡ malformed 1 ∷ []
unfolding pieces_in
cut_sequence = refl

four_bytes : pieces_utf8 (0xF0 ∷ 0x9F ∷ 0x92 ∷ 0xA9 ∷ []) ≡ well_formed 4 (0x1F4A9 ∷ []) ∷ []
unfolding pieces_in
four_bytes = refl

-- above 10FFFF
too_great : pieces_utf8 (0xF4 ∷ 0x90 ∷ 0x80 ∷ 0x80 ∷ []) ≡ malformed 1 ∷ malformed 1 ∷ malformed 1 ∷ malformed 1 ∷ []
unfolding pieces_in
too_great = refl

no_bytes : pieces_utf8 [] ≡ []
unfolding pieces_in
no_bytes = refl

-- forms longer than the shortest
overlong_two : pieces_utf8 (0xC0 ∷ 0x80 ∷ []) ≡ malformed 1 ∷ malformed 1 ∷ []
unfolding pieces_in
overlong_two = refl

overlong_three : pieces_utf8 (0xE0 ∷ 0x9F ∷ 0xBF ∷ []) ≡ malformed 1 ∷ malformed 1 ∷ malformed 1 ∷ []
unfolding pieces_in
overlong_three = refl

overlong_four : pieces_utf8 (0xF0 ∷ 0x8F ∷ 0xBF ∷ 0xBF ∷ []) ≡ malformed 1 ∷ malformed 1 ∷ malformed 1 ∷ malformed 1 ∷ []
unfolding pieces_in
overlong_four = refl

-- the last ASCII character
last_ascii : pieces_utf8 (0x7F ∷ []) ≡ well_formed 1 (0x7F ∷ []) ∷ []
unfolding pieces_in
last_ascii = refl

-- a malformed sequence of two bytes, then `A`
two_then_letter : pieces_utf8 (0xE2 ∷ 0x82 ∷ 0x41 ∷ []) ≡ malformed 2 ∷ well_formed 1 (0x41 ∷ []) ∷ []
unfolding pieces_in
two_then_letter = refl

-- a malformed sequence of three bytes, then `A`
three_then_letter : pieces_utf8 (0xF0 ∷ 0x9F ∷ 0x92 ∷ 0x41 ∷ []) ≡ malformed 3 ∷ well_formed 1 (0x41 ∷ []) ∷ []
unfolding pieces_in
three_then_letter = refl

-- a malformed sequence of two bytes out of four, after either lead with a narrow second byte
two_of_four : pieces_utf8 (0xF0 ∷ 0x90 ∷ 0x41 ∷ 0xF4 ∷ 0x8F ∷ 0x41 ∷ [])
    ≡ malformed 2 ∷ well_formed 1 (0x41 ∷ []) ∷ malformed 2 ∷ well_formed 1 (0x41 ∷ []) ∷ []
unfolding pieces_in
two_of_four = refl

-- malformed sequences of two and of three bytes that the end of the input cuts
cut_after_two : pieces_utf8 (0xE2 ∷ 0x82 ∷ []) ≡ malformed 2 ∷ []
unfolding pieces_in
cut_after_two = refl

cut_after_two_of_four : pieces_utf8 (0xF0 ∷ 0x9F ∷ []) ≡ malformed 2 ∷ []
unfolding pieces_in
cut_after_two_of_four = refl

cut_after_three : pieces_utf8 (0xF0 ∷ 0x9F ∷ 0x92 ∷ []) ≡ malformed 3 ∷ []
unfolding pieces_in
cut_after_three = refl

-- 7F and C0, the neighbours of the continuation bytes 80 to BF, end a malformed sequence at each of its bytes
not_the_second : pieces_utf8 (0xC2 ∷ 0x7F ∷ 0xDF ∷ 0xC0 ∷ []) ≡ malformed 1 ∷ well_formed 1 (0x7F ∷ []) ∷ malformed 1 ∷ malformed 1 ∷ []
unfolding pieces_in
not_the_second = refl

not_the_third : pieces_utf8 (0xE2 ∷ 0x82 ∷ 0x7F ∷ 0xE2 ∷ 0x82 ∷ 0xC0 ∷ []) ≡ malformed 2 ∷ well_formed 1 (0x7F ∷ []) ∷ malformed 2 ∷ malformed 1 ∷ []
unfolding pieces_in
not_the_third = refl

not_the_fourth : pieces_utf8 (0xF0 ∷ 0x9F ∷ 0x92 ∷ 0x7F ∷ 0xF0 ∷ 0x9F ∷ 0x92 ∷ 0xC0 ∷ []) ≡ malformed 3 ∷ well_formed 1 (0x7F ∷ []) ∷ malformed 3 ∷ malformed 1 ∷ []
unfolding pieces_in
not_the_fourth = refl

-- the first and the last scalar value of two bytes: U+0080 and U+07FF
ends_of_two : pieces_utf8 (0xC2 ∷ 0x80 ∷ 0xDF ∷ 0xBF ∷ []) ≡ well_formed 2 (0x80 ∷ []) ∷ well_formed 2 (0x7FF ∷ []) ∷ []
unfolding pieces_in
ends_of_two = refl

-- of three bytes: U+0800 and U+FFFF
ends_of_three : pieces_utf8 (0xE0 ∷ 0xA0 ∷ 0x80 ∷ 0xEF ∷ 0xBF ∷ 0xBF ∷ []) ≡ well_formed 3 (0x800 ∷ []) ∷ well_formed 3 (0xFFFF ∷ []) ∷ []
unfolding pieces_in
ends_of_three = refl

-- on both sides of the surrogates: U+D7FF and U+E000
beside_surrogates : pieces_utf8 (0xED ∷ 0x9F ∷ 0xBF ∷ 0xEE ∷ 0x80 ∷ 0x80 ∷ []) ≡ well_formed 3 (0xD7FF ∷ []) ∷ well_formed 3 (0xE000 ∷ []) ∷ []
unfolding pieces_in
beside_surrogates = refl

-- of four bytes: U+10000 and U+10FFFF
ends_of_four : pieces_utf8 (0xF0 ∷ 0x90 ∷ 0x80 ∷ 0x80 ∷ 0xF4 ∷ 0x8F ∷ 0xBF ∷ 0xBF ∷ []) ≡ well_formed 4 (0x10000 ∷ []) ∷ well_formed 4 (0x10FFFF ∷ []) ∷ []
unfolding pieces_in
ends_of_four = refl

-- the leads between take all continuation bytes: U+1000, U+CFFF, U+40000 and U+FFFFF
leads_between : pieces_utf8 (0xE1 ∷ 0x80 ∷ 0x80 ∷ 0xEC ∷ 0xBF ∷ 0xBF ∷ 0xF1 ∷ 0x80 ∷ 0x80 ∷ 0x80 ∷ 0xF3 ∷ 0xBF ∷ 0xBF ∷ 0xBF ∷ [])
    ≡ well_formed 3 (0x1000 ∷ []) ∷ well_formed 3 (0xCFFF ∷ []) ∷ well_formed 4 (0x40000 ∷ []) ∷ well_formed 4 (0xFFFFF ∷ []) ∷ []
unfolding pieces_in
leads_between = refl

-- a byte order mark is U+FEFF like any other character
byte_order_mark : pieces_utf8 (0xEF ∷ 0xBB ∷ 0xBF ∷ 0x41 ∷ []) ≡ well_formed 3 (0xFEFF ∷ []) ∷ well_formed 1 (0x41 ∷ []) ∷ []
unfolding pieces_in
byte_order_mark = refl

-- C1 and F5, the neighbours of the leads, begin nothing
no_leads : pieces_utf8 (0xC1 ∷ 0xBF ∷ 0xF5 ∷ 0x80 ∷ []) ≡ malformed 1 ∷ malformed 1 ∷ malformed 1 ∷ malformed 1 ∷ []
unfolding pieces_in
no_leads = refl
