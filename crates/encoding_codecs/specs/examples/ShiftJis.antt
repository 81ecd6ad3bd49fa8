-- Worked rows of `specs/ShiftJis.antt`.
use Rattle.std.specs.Prelude.{◌≡◌, ℕ, List, [], ◌∷◌, ◌++◌, Some, replicate, map}
use Rattle.std.proofs.Common.{refl}
use Rattle.encoding_mem.specs.Piece.{well_formed, malformed}
use Rattle.encoding_mem.specs.Pieces.{pieces_in}
use Rattle.encoding_mem.specs.declared.codec.form.Form.TheVariants.{Mapped, Unmapped}
use Rattle.encoding_codecs.specs.ShiftJis.{shift_jis_pair_pointer, pieces_shift_jis, shift_jis_pair_bytes, shift_jis_char_bytes, shift_jis_form}

-- a list for examples: U+30FB at 5, U+4E00 at 7 and 9, U+FF0D at 60
unfoldable sample : List ℕ
sample = replicate 5 0 ++ (0x30FB ∷ 0 ∷ 0x4E00 ∷ 0 ∷ 0x4E00 ∷ (replicate 50 0 ++ 0xFF0D ∷ []))

single_bytes : pieces_shift_jis sample (0x5C ∷ 0x7E ∷ 0x80 ∷ 0xA1 ∷ 0xDF ∷ 0xA0 ∷ 0xFD ∷ [])
    ≡ well_formed 1 (0x5C ∷ []) ∷ well_formed 1 (0x7E ∷ []) ∷ well_formed 1 (0x80 ∷ []) ∷ well_formed 1 (0xFF61 ∷ []) ∷ well_formed 1 (0xFF9F ∷ []) ∷ malformed 1 ∷ malformed 1 ∷ []
unfolding sample pieces_in
single_bytes = refl

pairs : pieces_shift_jis sample (0x81 ∷ 0x45 ∷ 0x81 ∷ 0x7C ∷ 0x81 ∷ 0x5C ∷ 0x81 ∷ 0xA1 ∷ 0x81 ∷ [])
    ≡ well_formed 2 (0x30FB ∷ []) ∷ well_formed 2 (0xFF0D ∷ []) ∷ malformed 1 ∷ well_formed 1 (0x5C ∷ []) ∷ malformed 2 ∷ malformed 1 ∷ []
unfolding sample pieces_in
pairs = refl

-- the first and the last characters for private use
private_use : pieces_shift_jis sample (0xF0 ∷ 0x40 ∷ 0xF9 ∷ 0xFC ∷ 0xFA ∷ 0x40 ∷ [])
    ≡ well_formed 2 (0xE000 ∷ []) ∷ well_formed 2 (0xE757 ∷ []) ∷ malformed 1 ∷ well_formed 1 (0x40 ∷ []) ∷ []
unfolding sample pieces_in
private_use = refl

pointers : (shift_jis_pair_pointer 0x9F 0xFC ≡ 5827) × (shift_jis_pair_pointer 0xE0 0x40 ≡ 5828) × (shift_jis_pair_pointer 0xED 0x40 ≡ 8272) × (shift_jis_pair_pointer 0xFC 0xFC ≡ 11279)
pointers = (refl, refl, refl, refl)

back_to_bytes : (shift_jis_pair_bytes 62 ≡ 0x81 ∷ 0x7E ∷ []) × (shift_jis_pair_bytes 63 ≡ 0x81 ∷ 0x80 ∷ []) × (shift_jis_pair_bytes 5827 ≡ 0x9F ∷ 0xFC ∷ []) × (shift_jis_pair_bytes 11279 ≡ 0xFC ∷ 0xFC ∷ [])
back_to_bytes = (refl, refl, refl, refl)

yen_sign : shift_jis_char_bytes sample 0xA5 ≡ Some (0x5C ∷ [])
unfolding sample
yen_sign = refl

minus_sign : shift_jis_char_bytes sample 0x2212 ≡ Some (0x81 ∷ 0x7C ∷ [])
unfolding sample
minus_sign = refl

first_of_two : shift_jis_char_bytes sample 0x4E00 ≡ Some (0x81 ∷ 0x47 ∷ [])
unfolding sample
first_of_two = refl

-- it is the minus sign that is reported, and not what it is looked up as
unmappable_minus_sign : shift_jis_form [] 0x2212 ≡ Unmapped 0x2212
unmappable_minus_sign = refl

private_use_is_unmappable : shift_jis_form sample 0xE000 ≡ Unmapped 0xE000
unfolding sample
private_use_is_unmappable = refl

last_katakana : shift_jis_form sample 0xFF9F ≡ Mapped (0xDF ∷ [])
unfolding sample
last_katakana = refl

-- an index with one entry
abbrev at : ℕ → ℕ → List ℕ
at pointer c = replicate pointer 0 ++ (c ∷ [])

-- U+4E9C at 1410, its row 16 and cell 1: 88 9F
a_kanji : (pieces_shift_jis (at 1410 0x4E9C) (0x88 ∷ 0x9F ∷ []) ≡ well_formed 2 (0x4E9C ∷ []) ∷ [])
    × (shift_jis_form (at 1410 0x4E9C) 0x4E9C ≡ Mapped (0x88 ∷ 0x9F ∷ []))
unfolding pieces_in
a_kanji = (refl, refl)

-- ED 40 to EF FC, the pointers 8272 to 8835, are read and not written
gap_is_read : pieces_shift_jis (replicate 8271 0 ++ (0x4E01 ∷ 0x4E00 ∷ (replicate 562 0 ++ (0x4E02 ∷ [])))) (0xEC ∷ 0xFC ∷ 0xED ∷ 0x40 ∷ 0xEF ∷ 0xFC ∷ [])
    ≡ well_formed 2 (0x4E01 ∷ []) ∷ well_formed 2 (0x4E00 ∷ []) ∷ well_formed 2 (0x4E02 ∷ []) ∷ []
unfolding pieces_in
gap_is_read = refl

gap_is_not_written : map (λ p. shift_jis_form (at p 0x4E00) 0x4E00) (8271 ∷ 8272 ∷ 8835 ∷ 8836 ∷ [])
    ≡ Mapped (0xEC ∷ 0xFC ∷ []) ∷ Unmapped 0x4E00 ∷ Unmapped 0x4E00 ∷ Mapped (0xF0 ∷ 0x40 ∷ []) ∷ []
gap_is_not_written = refl

-- what stands in it and after it is written as that which stands after
behind_the_gap : shift_jis_form (replicate 8272 0 ++ (0x4E00 ∷ (replicate 2443 0 ++ (0x4E00 ∷ [])))) 0x4E00 ≡ Mapped (0xFA ∷ 0x40 ∷ [])
behind_the_gap = refl

-- the index has the pointers below 11280
last_of_index : map (λ p. shift_jis_form (at p 0x4E00) 0x4E00) (11279 ∷ 11280 ∷ []) ≡ Mapped (0xFC ∷ 0xFC ∷ []) ∷ Unmapped 0x4E00 ∷ []
last_of_index = refl

-- beside the characters for private use, which the pointers 8836 to 10715 give, the index counts
beside_private_use : pieces_shift_jis (replicate 11280 0x4E00) (0xEF ∷ 0xFC ∷ 0xF0 ∷ 0x40 ∷ 0xF0 ∷ 0x41 ∷ 0xF9 ∷ 0xFB ∷ 0xF9 ∷ 0xFC ∷ 0xFA ∷ 0x40 ∷ [])
    ≡ well_formed 2 (0x4E00 ∷ []) ∷ well_formed 2 (0xE000 ∷ []) ∷ well_formed 2 (0xE001 ∷ []) ∷ well_formed 2 (0xE756 ∷ []) ∷ well_formed 2 (0xE757 ∷ []) ∷ well_formed 2 (0x4E00 ∷ []) ∷ []
unfolding pieces_in
beside_private_use = refl

private_use_has_no_form : map (shift_jis_form sample) (0xE000 ∷ 0xE757 ∷ []) ≡ Unmapped 0xE000 ∷ Unmapped 0xE757 ∷ []
unfolding sample
private_use_has_no_form = refl

-- the trails are 40 to 7E and 80 to FC: a lead has 188
unfoldable neighbours : List ℕ
neighbours = 0x4E00 ∷ (replicate 61 0 ++ (0x4E01 ∷ 0x4E02 ∷ (replicate 123 0 ++ (0x4E03 ∷ 0x4E04 ∷ []))))

trail_ends : pieces_shift_jis neighbours (0x81 ∷ 0x40 ∷ 0x81 ∷ 0x7E ∷ 0x81 ∷ 0x80 ∷ 0x81 ∷ 0xFC ∷ 0x82 ∷ 0x40 ∷ [])
    ≡ well_formed 2 (0x4E00 ∷ []) ∷ well_formed 2 (0x4E01 ∷ []) ∷ well_formed 2 (0x4E02 ∷ []) ∷ well_formed 2 (0x4E03 ∷ []) ∷ well_formed 2 (0x4E04 ∷ []) ∷ []
unfolding neighbours pieces_in
trail_ends = refl

-- with another trail a pair is malformed: 3F and 7F are ASCII, and are read again
no_trails : pieces_shift_jis (replicate 380 0x4E00) (0x81 ∷ 0x3F ∷ 0x81 ∷ 0x7F ∷ 0x81 ∷ 0xFD ∷ 0x81 ∷ 0xFF ∷ [])
    ≡ malformed 1 ∷ well_formed 1 (0x3F ∷ []) ∷ malformed 1 ∷ well_formed 1 (0x7F ∷ []) ∷ malformed 2 ∷ malformed 2 ∷ []
unfolding pieces_in
no_trails = refl

-- the leads are 81 to 9F and E0 to FC; A1 to DF are halfwidth katakana
leads : pieces_shift_jis (replicate 11280 0x4E00) (0x9F ∷ 0xFC ∷ 0xE0 ∷ 0x40 ∷ 0xFC ∷ 0xFC ∷ []) ≡ replicate 3 (well_formed 2 (0x4E00 ∷ []))
unfolding pieces_in
leads = refl

no_leads : pieces_shift_jis (replicate 11280 0x4E00) (0x80 ∷ 0x40 ∷ 0xA0 ∷ 0x40 ∷ 0xA1 ∷ 0x40 ∷ 0xDF ∷ 0x40 ∷ 0xFD ∷ 0x40 ∷ 0xFF ∷ [])
    ≡ well_formed 1 (0x80 ∷ []) ∷ well_formed 1 (0x40 ∷ []) ∷ malformed 1 ∷ well_formed 1 (0x40 ∷ []) ∷ well_formed 1 (0xFF61 ∷ []) ∷ well_formed 1 (0x40 ∷ []) ∷ well_formed 1 (0xFF9F ∷ []) ∷ well_formed 1 (0x40 ∷ []) ∷ malformed 1 ∷ well_formed 1 (0x40 ∷ []) ∷ malformed 1 ∷ []
unfolding pieces_in
no_leads = refl

bytes_side_by_side : map shift_jis_pair_bytes (0 ∷ 187 ∷ 188 ∷ 5828 ∷ 8272 ∷ [])
    ≡ (0x81 ∷ 0x40 ∷ []) ∷ (0x81 ∷ 0xFC ∷ []) ∷ (0x82 ∷ 0x40 ∷ []) ∷ (0xE0 ∷ 0x40 ∷ []) ∷ (0xED ∷ 0x40 ∷ []) ∷ []
bytes_side_by_side = refl

-- ASCII and U+0080 are themselves, U+00A5 is 5C, U+203E 7E, U+FF61 to U+FF9F A1 to DF; those beside them have no byte
single_byte_forms : map (shift_jis_form []) (0x5C ∷ 0x7E ∷ 0x7F ∷ 0x80 ∷ 0xA5 ∷ 0x203E ∷ 0xFF61 ∷ 0xFF9F ∷ [])
    ≡ Mapped (0x5C ∷ []) ∷ Mapped (0x7E ∷ []) ∷ Mapped (0x7F ∷ []) ∷ Mapped (0x80 ∷ []) ∷ Mapped (0x5C ∷ []) ∷ Mapped (0x7E ∷ []) ∷ Mapped (0xA1 ∷ []) ∷ Mapped (0xDF ∷ []) ∷ []
single_byte_forms = refl

no_single_byte : map (shift_jis_form []) (0x81 ∷ 0xA4 ∷ 0xA6 ∷ 0x203D ∷ 0x203F ∷ 0xFF60 ∷ 0xFFA0 ∷ [])
    ≡ map Unmapped (0x81 ∷ 0xA4 ∷ 0xA6 ∷ 0x203D ∷ 0x203F ∷ 0xFF60 ∷ 0xFFA0 ∷ [])
no_single_byte = refl

-- U+2212 is looked up as U+FF0D, and as nothing else
looked_up : (map (shift_jis_form (0x2212 ∷ 0xFF0D ∷ [])) (0x2212 ∷ 0xFF0D ∷ []) ≡ Mapped (0x81 ∷ 0x41 ∷ []) ∷ Mapped (0x81 ∷ 0x41 ∷ []) ∷ [])
    × (shift_jis_form (0x2212 ∷ []) 0x2212 ≡ Unmapped 0x2212)
looked_up = (refl, refl)
