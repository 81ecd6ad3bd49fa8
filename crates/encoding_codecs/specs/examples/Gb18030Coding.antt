-- Worked rows of `specs/Gb18030Coding.antt`.
use Rattle.std.specs.Prelude.{◌≡◌, ℕ, Bool, true, false, List, [], ◌∷◌, refl, map, replicate, ◌++◌}
use Rattle.encoding_mem.specs.calls.EncodedLength.{bound_for}
use Rattle.encoding_mem.specs.declared.codec.form.Form.{Form}
use Rattle.encoding_mem.specs.declared.codec.form.Form.TheVariants.{Mapped, Unmapped}
use Rattle.encoding_codecs.specs.Gb18030.{sample_flat, sample_rows}
use Rattle.encoding_codecs.specs.Gb18030Coding.{gb18030_pair_bytes, gb18030_form, gb18030_four_bytes}
use Rattle.encoding_codecs.specs.calls.Gb18030Bounds.{gb18030_need, gb18030_encoded_length}
use Rattle.encoding_mem.specs.calls.DecodedLength.{bound_at}

two_bytes : gb18030_form sample_flat sample_rows true 0x4E04 ≡ Mapped (0x81 ∷ 0x41 ∷ [])
unfolding sample_flat
two_bytes = refl

four : gb18030_form sample_flat sample_rows true 0x10FFFF ≡ Mapped (0xE3 ∷ 0x32 ∷ 0x9A ∷ 0x35 ∷ [])
unfolding sample_flat sample_rows
four = refl

four_in_gbk : gb18030_form sample_flat sample_rows false 0x10FFFF ≡ Unmapped 0x10FFFF
unfolding sample_flat
four_in_gbk = refl

fixed_pointer : gb18030_form sample_flat sample_rows true 0xE7C7 ≡ Mapped (0x81 ∷ 0x35 ∷ 0xF4 ∷ 0x37 ∷ [])
unfolding sample_flat
fixed_pointer = refl

first_row : gb18030_form sample_flat sample_rows true 0xE78D ≡ Mapped (0xA6 ∷ 0xD9 ∷ [])
first_row = refl

another_row : gb18030_form sample_flat sample_rows false 0xE81E ≡ Mapped (0xFE ∷ 0x59 ∷ [])
another_row = refl

last_row : gb18030_form sample_flat sample_rows true 0xE864 ≡ Mapped (0xFE ∷ 0xA0 ∷ [])
last_row = refl

-- U+E5E5 is unmappable although the index has it, and the code points beside it are not
never : map (gb18030_form (0xE5E4 ∷ 0xE5E5 ∷ 0xE5E6 ∷ []) sample_rows true) (0xE5E4 ∷ 0xE5E5 ∷ 0xE5E6 ∷ [])
    ≡ Mapped (0x81 ∷ 0x40 ∷ []) ∷ Unmapped 0xE5E5 ∷ Mapped (0x81 ∷ 0x42 ∷ []) ∷ []
never = refl

-- and although the ranges have it
never_in_ranges : map (gb18030_form [] ((0, 0xE5E4) ∷ []) true) (0xE5E4 ∷ 0xE5E5 ∷ [])
    ≡ Mapped (0x81 ∷ 0x30 ∷ 0x81 ∷ 0x30 ∷ []) ∷ Unmapped 0xE5E5 ∷ []
never_in_ranges = refl

euro_in_gbk : gb18030_form sample_flat sample_rows false 0x20AC ≡ Mapped (0x80 ∷ [])
euro_in_gbk = refl

euro : gb18030_form (0x20AC ∷ []) sample_rows true 0x20AC ≡ Mapped (0x81 ∷ 0x40 ∷ [])
euro = refl

trail_behind_7f : gb18030_pair_bytes 63 ≡ 0x81 ∷ 0x80 ∷ []
trail_behind_7f = refl

last_pair : gb18030_pair_bytes 23939 ≡ 0xFE ∷ 0xFE ∷ []
last_pair = refl

-- the 18 private-use code points that have bytes of their own, in gb18030 and in GBK, even if the index has the first
unfoldable private_use : List ℕ
private_use = 0xE78D ∷ 0xE78E ∷ 0xE78F ∷ 0xE790 ∷ 0xE791 ∷ 0xE792 ∷ 0xE793 ∷ 0xE794 ∷ 0xE795 ∷ 0xE796 ∷ 0xE81E ∷ 0xE826 ∷ 0xE82B ∷ 0xE82C ∷ 0xE832 ∷ 0xE843 ∷ 0xE854 ∷ 0xE864 ∷ []

unfoldable private_use_forms : List Form
private_use_forms = Mapped (0xA6 ∷ 0xD9 ∷ []) ∷ Mapped (0xA6 ∷ 0xDA ∷ []) ∷ Mapped (0xA6 ∷ 0xDB ∷ []) ∷ Mapped (0xA6 ∷ 0xDC ∷ []) ∷ Mapped (0xA6 ∷ 0xDD ∷ []) ∷ Mapped (0xA6 ∷ 0xDE ∷ [])
    ∷ Mapped (0xA6 ∷ 0xDF ∷ []) ∷ Mapped (0xA6 ∷ 0xEC ∷ []) ∷ Mapped (0xA6 ∷ 0xED ∷ []) ∷ Mapped (0xA6 ∷ 0xF3 ∷ []) ∷ Mapped (0xFE ∷ 0x59 ∷ []) ∷ Mapped (0xFE ∷ 0x61 ∷ [])
    ∷ Mapped (0xFE ∷ 0x66 ∷ []) ∷ Mapped (0xFE ∷ 0x67 ∷ []) ∷ Mapped (0xFE ∷ 0x6D ∷ []) ∷ Mapped (0xFE ∷ 0x7E ∷ []) ∷ Mapped (0xFE ∷ 0x90 ∷ []) ∷ Mapped (0xFE ∷ 0xA0 ∷ []) ∷ []

private_use_in_gb18030 : map (gb18030_form [] sample_rows true) private_use ≡ private_use_forms
unfolding private_use private_use_forms
private_use_in_gb18030 = refl

private_use_in_gbk : map (gb18030_form (0xE78D ∷ []) sample_rows false) private_use ≡ private_use_forms
unfolding private_use private_use_forms
private_use_in_gbk = refl

-- other code points have bytes only in the index or the ranges
no_private_use : map (gb18030_form [] sample_rows true) (0xE78C ∷ 0xE797 ∷ 0xE81D ∷ 0xE81F ∷ 0xE863 ∷ 0xE865 ∷ [])
    ≡ map Unmapped (0xE78C ∷ 0xE797 ∷ 0xE81D ∷ 0xE81F ∷ 0xE863 ∷ 0xE865 ∷ [])
unfolding sample_rows
no_private_use = refl

two_bytes_in_gbk : gb18030_form sample_flat sample_rows false 0x4E04 ≡ Mapped (0x81 ∷ 0x41 ∷ [])
unfolding sample_flat
two_bytes_in_gbk = refl

-- GBK writes U+20AC as 80 although the index has it, and gb18030 never does; nothing else is 80
euro_in_gbk_alone : (gb18030_form (0x20AC ∷ []) sample_rows false 0x20AC ≡ Mapped (0x80 ∷ []))
    × (gb18030_form [] sample_rows true 0x20AC ≡ Unmapped 0x20AC)
unfolding sample_rows
euro_in_gbk_alone = (refl, refl)

beside_the_euro : map (gb18030_form (0x20AB ∷ 0x20AD ∷ []) sample_rows false) (0x20AB ∷ 0x20AD ∷ [])
    ≡ Mapped (0x81 ∷ 0x40 ∷ []) ∷ Mapped (0x81 ∷ 0x41 ∷ []) ∷ []
beside_the_euro = refl

-- U+007F is ASCII, U+0080 is not
ascii_end : map (gb18030_form [] [] false) (0x7F ∷ 0x80 ∷ []) ≡ Mapped (0x7F ∷ []) ∷ Unmapped 0x80 ∷ []
ascii_end = refl

-- the index has the pointers below 23940
last_of_index : gb18030_form (replicate 23939 0 ++ (0x4E00 ∷ [])) [] false 0x4E00 ≡ Mapped (0xFE ∷ 0xFE ∷ [])
last_of_index = refl

behind_the_index : gb18030_form (replicate 23940 0 ++ (0x4E00 ∷ [])) [] false 0x4E00 ≡ Unmapped 0x4E00
behind_the_index = refl

-- of two pointers the first is written
first_of_two : gb18030_form (0 ∷ 0x4E00 ∷ 0x4E00 ∷ []) [] false 0x4E00 ≡ Mapped (0x81 ∷ 0x41 ∷ [])
first_of_two = refl

-- a lead has the trails 40 to 7E and 80 to FE
trails : map gb18030_pair_bytes (0 ∷ 62 ∷ 189 ∷ 190 ∷ []) ≡ (0x81 ∷ 0x40 ∷ []) ∷ (0x81 ∷ 0x7E ∷ []) ∷ (0x81 ∷ 0xFE ∷ []) ∷ (0x82 ∷ 0x40 ∷ []) ∷ []
trails = refl

-- the four bytes of the first and the last pointers in the basic plane and above it, and when a byte goes over
four_ends : map gb18030_four_bytes (0 ∷ 39419 ∷ 189000 ∷ 1237575 ∷ [])
    ≡ (0x81 ∷ 0x30 ∷ 0x81 ∷ 0x30 ∷ []) ∷ (0x84 ∷ 0x31 ∷ 0xA4 ∷ 0x39 ∷ []) ∷ (0x90 ∷ 0x30 ∷ 0x81 ∷ 0x30 ∷ []) ∷ (0xE3 ∷ 0x32 ∷ 0x9A ∷ 0x35 ∷ []) ∷ []
four_ends = refl

four_steps : map gb18030_four_bytes (9 ∷ 10 ∷ 1259 ∷ 1260 ∷ 12599 ∷ 12600 ∷ [])
    ≡ (0x81 ∷ 0x30 ∷ 0x81 ∷ 0x39 ∷ []) ∷ (0x81 ∷ 0x30 ∷ 0x82 ∷ 0x30 ∷ []) ∷ (0x81 ∷ 0x30 ∷ 0xFE ∷ 0x39 ∷ []) ∷ (0x81 ∷ 0x31 ∷ 0x81 ∷ 0x30 ∷ []) ∷ (0x81 ∷ 0x39 ∷ 0xFE ∷ 0x39 ∷ []) ∷ (0x82 ∷ 0x30 ∷ 0x81 ∷ 0x30 ∷ []) ∷ []
four_steps = refl

-- U+E7C7 is at the pointer 7457, which no other scalar value takes, and which GBK has not
beside_the_fixed_pointer : map (gb18030_form [] ((7456, 0x1E3E) ∷ []) true) (0x1E3E ∷ 0x1E3F ∷ 0x1E40 ∷ [])
    ≡ Mapped (0x81 ∷ 0x35 ∷ 0xF4 ∷ 0x36 ∷ []) ∷ Unmapped 0x1E3F ∷ Mapped (0x81 ∷ 0x35 ∷ 0xF4 ∷ 0x38 ∷ []) ∷ []
beside_the_fixed_pointer = refl

no_fixed_pointer_in_gbk : gb18030_form [] sample_rows false 0xE7C7 ≡ Unmapped 0xE7C7
no_fixed_pointer_in_gbk = refl

-- the most bytes of a character
most_bytes : (gb18030_need true ≡ 4) × (gb18030_need false ≡ 2)
most_bytes = (refl, refl)

-- the room for 7 units and for 7 bytes of text: 4n and 2n + 2 in gb18030, 2n and n + 1 in GBK
room_of_text : Bool → Bool → ℕ
room_of_text extended is_units = bound_at (bound_for (gb18030_encoded_length extended) is_units) 7

rooms : (map (room_of_text true) (true ∷ false ∷ []) ≡ 28 ∷ 16 ∷ []) × (map (room_of_text false) (true ∷ false ∷ []) ≡ 14 ∷ 8 ∷ [])
unfolding room_of_text
rooms = (refl, refl)
