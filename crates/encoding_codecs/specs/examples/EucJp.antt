-- Worked rows of `specs/EucJp.antt`.
use Rattle.std.specs.Prelude.{◌≡◌, ℕ, List, [], ◌∷◌, ◌++◌, Some, replicate, map}
use Rattle.std.proofs.Common.{refl}
use Rattle.encoding_mem.specs.Piece.{well_formed, malformed}
use Rattle.encoding_mem.specs.Pieces.{pieces_in}
use Rattle.encoding_mem.specs.declared.codec.form.Form.TheVariants.{Unmapped, Mapped}
use Rattle.encoding_codecs.specs.EucJp.{pieces_euc_jp, euc_jp_pair_bytes, euc_jp_char_bytes, euc_jp_form}

-- lists for examples: of jis0208 U+30FB at 5, U+4E00 at 7 and 9 and U+FF0D at 60, of jis0212 U+02D8 at 1
unfoldable sample : List ℕ
sample = replicate 5 0 ++ (0x30FB ∷ 0 ∷ 0x4E00 ∷ 0 ∷ 0x4E00 ∷ (replicate 50 0 ++ 0xFF0D ∷ []))

unfoldable sample_0212 : List ℕ
sample_0212 = 0 ∷ 0x02D8 ∷ []

two_bytes : pieces_euc_jp sample sample_0212 (0xA1 ∷ 0xA6 ∷ 0x8E ∷ 0xDF ∷ 0x41 ∷ 0xA1 ∷ 0xDD ∷ [])
    ≡ well_formed 2 (0x30FB ∷ []) ∷ well_formed 2 (0xFF9F ∷ []) ∷ well_formed 1 (0x41 ∷ []) ∷ well_formed 2 (0xFF0D ∷ []) ∷ []
unfolding sample sample_0212 pieces_in
two_bytes = refl

three_bytes : pieces_euc_jp sample sample_0212 (0x8F ∷ 0xA1 ∷ 0xA2 ∷ 0x8F ∷ 0xA1 ∷ 0xA6 ∷ [])
    ≡ well_formed 3 (0x02D8 ∷ []) ∷ malformed 3 ∷ []
unfolding sample sample_0212 pieces_in
three_bytes = refl

-- what is ASCII is left unread, after one byte and after two
ascii_is_left : pieces_euc_jp sample sample_0212 (0x8F ∷ 0xA1 ∷ 0x41 ∷ 0x8F ∷ 0x42 ∷ 0x8E ∷ 0x43 ∷ 0xA1 ∷ 0x44 ∷ [])
    ≡ malformed 2 ∷ well_formed 1 (0x41 ∷ []) ∷ malformed 1 ∷ well_formed 1 (0x42 ∷ []) ∷ malformed 1 ∷ well_formed 1 (0x43 ∷ []) ∷ malformed 1 ∷ well_formed 1 (0x44 ∷ []) ∷ []
unfolding sample sample_0212 pieces_in
ascii_is_left = refl

other_is_read : pieces_euc_jp sample sample_0212 (0x8F ∷ 0xA0 ∷ 0x8E ∷ 0xE0 ∷ 0xA1 ∷ 0xA1 ∷ 0x80 ∷ 0xFF ∷ [])
    ≡ malformed 2 ∷ malformed 2 ∷ malformed 2 ∷ malformed 1 ∷ malformed 1 ∷ []
unfolding sample sample_0212 pieces_in
other_is_read = refl

cut_short : (pieces_euc_jp sample sample_0212 (0x8F ∷ 0xA1 ∷ []) ≡ malformed 2 ∷ []) × (pieces_euc_jp sample sample_0212 (0x8F ∷ []) ≡ malformed 1 ∷ [])
unfolding sample sample_0212 pieces_in
cut_short = (refl, refl)

last_pointer : euc_jp_pair_bytes 8835 ≡ 0xFE ∷ 0xFE ∷ []
last_pointer = refl

overline : euc_jp_char_bytes sample 0x203E ≡ Some (0x7E ∷ [])
unfolding sample
overline = refl

minus_sign : euc_jp_char_bytes sample 0x2212 ≡ Some (0xA1 ∷ 0xDD ∷ [])
unfolding sample
minus_sign = refl

first_of_two : euc_jp_char_bytes sample 0x4E00 ≡ Some (0xA1 ∷ 0xA8 ∷ [])
unfolding sample
first_of_two = refl

last_katakana : euc_jp_char_bytes sample 0xFF9F ≡ Some (0x8E ∷ 0xDF ∷ [])
unfolding sample
last_katakana = refl

-- it is the minus sign that is reported, and not what it is looked up as
unmappable_minus_sign : euc_jp_form [] 0x2212 ≡ Unmapped 0x2212
unmappable_minus_sign = refl

-- 80 is no character of EUC-JP
no_control : euc_jp_form sample 0x80 ≡ Unmapped 0x80
unfolding sample
no_control = refl

-- an index with one entry
abbrev at : ℕ → ℕ → List ℕ
at pointer c = replicate pointer 0 ++ (c ∷ [])

-- U+4E9C at 1410, its row 16 and cell 1: B0 A1
a_kanji : (pieces_euc_jp (at 1410 0x4E9C) [] (0xB0 ∷ 0xA1 ∷ []) ≡ well_formed 2 (0x4E9C ∷ []) ∷ [])
    × (euc_jp_form (at 1410 0x4E9C) 0x4E9C ≡ Mapped (0xB0 ∷ 0xA1 ∷ []))
unfolding pieces_in
a_kanji = (refl, refl)

-- U+02D8 at 108 of jis0212, its row 2 and cell 15: 8F A2 AF; it is never written
three_byte_kanji : (pieces_euc_jp [] (at 108 0x02D8) (0x8F ∷ 0xA2 ∷ 0xAF ∷ []) ≡ well_formed 3 (0x02D8 ∷ []) ∷ [])
    × (euc_jp_form [] 0x02D8 ≡ Unmapped 0x02D8)
unfolding pieces_in
three_byte_kanji = (refl, refl)

-- jis0208 is written from the pointers below 8836, which two bytes reach
last_written : map (λ p. euc_jp_form (at p 0x4E00) 0x4E00) (0 ∷ 93 ∷ 94 ∷ 8272 ∷ 8835 ∷ 8836 ∷ [])
    ≡ Mapped (0xA1 ∷ 0xA1 ∷ []) ∷ Mapped (0xA1 ∷ 0xFE ∷ []) ∷ Mapped (0xA2 ∷ 0xA1 ∷ []) ∷ Mapped (0xF9 ∷ 0xA1 ∷ []) ∷ Mapped (0xFE ∷ 0xFE ∷ []) ∷ Unmapped 0x4E00 ∷ []
last_written = refl

-- two bytes are A1 to FE each: the pointers 0, 93, 94 and 8835
unfoldable corners : List ℕ
corners = 0x4E00 ∷ (replicate 92 0 ++ (0x4E01 ∷ 0x4E02 ∷ (replicate 8740 0 ++ (0x4E03 ∷ []))))

pair_ends : pieces_euc_jp corners [] (0xA1 ∷ 0xA1 ∷ 0xA1 ∷ 0xFE ∷ 0xA2 ∷ 0xA1 ∷ 0xFE ∷ 0xFE ∷ [])
    ≡ well_formed 2 (0x4E00 ∷ []) ∷ well_formed 2 (0x4E01 ∷ []) ∷ well_formed 2 (0x4E02 ∷ []) ∷ well_formed 2 (0x4E03 ∷ []) ∷ []
unfolding corners pieces_in
pair_ends = refl

triple_ends : pieces_euc_jp [] corners (0x8F ∷ 0xA1 ∷ 0xA1 ∷ 0x8F ∷ 0xA1 ∷ 0xFE ∷ 0x8F ∷ 0xA2 ∷ 0xA1 ∷ 0x8F ∷ 0xFE ∷ 0xFE ∷ [])
    ≡ well_formed 3 (0x4E00 ∷ []) ∷ well_formed 3 (0x4E01 ∷ []) ∷ well_formed 3 (0x4E02 ∷ []) ∷ well_formed 3 (0x4E03 ∷ []) ∷ []
unfolding corners pieces_in
triple_ends = refl

-- A0 and FF are neither second nor third bytes, whatever the indexes hold
no_trails : pieces_euc_jp (replicate 190 0x4E00) (replicate 190 0x4E00) (0xA1 ∷ 0xA0 ∷ 0xA1 ∷ 0xFF ∷ 0x8F ∷ 0xA0 ∷ 0x8F ∷ 0xFF ∷ 0x8F ∷ 0xA1 ∷ 0xA0 ∷ 0x8F ∷ 0xA1 ∷ 0xFF ∷ [])
    ≡ malformed 2 ∷ malformed 2 ∷ malformed 2 ∷ malformed 2 ∷ malformed 3 ∷ malformed 3 ∷ []
unfolding pieces_in
no_trails = refl

-- 7F is ASCII, 80 is not
ascii_end : pieces_euc_jp [] [] (0xA1 ∷ 0x7F ∷ 0x8F ∷ 0xA1 ∷ 0x7F ∷ 0xA1 ∷ 0x80 ∷ 0x8F ∷ 0xA1 ∷ 0x80 ∷ [])
    ≡ malformed 1 ∷ well_formed 1 (0x7F ∷ []) ∷ malformed 2 ∷ well_formed 1 (0x7F ∷ []) ∷ malformed 2 ∷ malformed 3 ∷ []
unfolding pieces_in
ascii_end = refl

-- nothing begins with 80, 8D, 90, A0 or FF
no_leads : pieces_euc_jp (replicate 8836 0x4E00) [] (0x80 ∷ 0x8D ∷ 0x90 ∷ 0xA0 ∷ 0xFF ∷ 0x41 ∷ [])
    ≡ malformed 1 ∷ malformed 1 ∷ malformed 1 ∷ malformed 1 ∷ malformed 1 ∷ well_formed 1 (0x41 ∷ []) ∷ []
unfolding pieces_in
no_leads = refl

-- after 8E A1 to DF are halfwidth katakana
katakana_ends : pieces_euc_jp [] [] (0x8E ∷ 0xA1 ∷ 0x8E ∷ 0xDF ∷ 0x8E ∷ 0xA0 ∷ 0x8E ∷ 0xE0 ∷ [])
    ≡ well_formed 2 (0xFF61 ∷ []) ∷ well_formed 2 (0xFF9F ∷ []) ∷ malformed 2 ∷ malformed 2 ∷ []
unfolding pieces_in
katakana_ends = refl

-- U+00A5 is 5C, U+203E 7E, U+FF61 to U+FF9F 8E and A1 to DF; those beside them have no bytes
own_forms : map (euc_jp_form []) (0x5C ∷ 0x7E ∷ 0x7F ∷ 0xA5 ∷ 0x203E ∷ 0xFF61 ∷ 0xFF9F ∷ [])
    ≡ Mapped (0x5C ∷ []) ∷ Mapped (0x7E ∷ []) ∷ Mapped (0x7F ∷ []) ∷ Mapped (0x5C ∷ []) ∷ Mapped (0x7E ∷ []) ∷ Mapped (0x8E ∷ 0xA1 ∷ []) ∷ Mapped (0x8E ∷ 0xDF ∷ []) ∷ []
own_forms = refl

no_own_form : map (euc_jp_form []) (0xA4 ∷ 0xA6 ∷ 0x203D ∷ 0x203F ∷ 0xFF60 ∷ 0xFFA0 ∷ [])
    ≡ map Unmapped (0xA4 ∷ 0xA6 ∷ 0x203D ∷ 0x203F ∷ 0xFF60 ∷ 0xFFA0 ∷ [])
no_own_form = refl

-- U+2212 is looked up as U+FF0D
looked_up : map (euc_jp_form (0x2212 ∷ 0xFF0D ∷ [])) (0x2212 ∷ 0xFF0D ∷ []) ≡ Mapped (0xA1 ∷ 0xA2 ∷ []) ∷ Mapped (0xA1 ∷ 0xA2 ∷ []) ∷ []
looked_up = refl
