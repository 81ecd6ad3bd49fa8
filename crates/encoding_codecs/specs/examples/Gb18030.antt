-- Worked rows of `specs/Gb18030.antt`.
use Rattle.std.specs.Prelude.{◌≡◌, ℕ, List, [], ◌∷◌, refl, replicate, ◌++◌}
use Rattle.encoding_mem.specs.Piece.{well_formed, malformed}
use Rattle.encoding_mem.specs.Pieces.{pieces_in}
use Rattle.encoding_codecs.specs.Gb18030.{pieces_gb18030, sample_flat, sample_rows}

alone : pieces_gb18030 sample_flat sample_rows (0x41 ∷ 0x80 ∷ 0xFF ∷ []) ≡ well_formed 1 (0x41 ∷ []) ∷ well_formed 1 (0x20AC ∷ []) ∷ malformed 1 ∷ []
unfolding pieces_in
alone = refl

two_bytes : pieces_gb18030 sample_flat sample_rows (0x81 ∷ 0x41 ∷ []) ≡ well_formed 2 (0x4E04 ∷ []) ∷ []
unfolding sample_flat pieces_in
two_bytes = refl

-- a trail that gives nothing is left if it is ASCII
no_entry : pieces_gb18030 sample_flat sample_rows (0x81 ∷ 0x40 ∷ 0x81 ∷ 0x80 ∷ 0x81 ∷ 0xFF ∷ []) ≡ malformed 1 ∷ well_formed 1 (0x40 ∷ []) ∷ malformed 2 ∷ malformed 2 ∷ []
unfolding sample_flat pieces_in
no_entry = refl

last_character : pieces_gb18030 sample_flat sample_rows (0xE3 ∷ 0x32 ∷ 0x9A ∷ 0x35 ∷ []) ≡ well_formed 4 (0x10FFFF ∷ []) ∷ []
unfolding sample_rows pieces_in
last_character = refl

no_row : pieces_gb18030 sample_flat sample_rows (0x81 ∷ 0x30 ∷ 0x81 ∷ 0x30 ∷ 0xE3 ∷ 0x32 ∷ 0x9A ∷ 0x36 ∷ []) ≡ malformed 4 ∷ malformed 4 ∷ []
unfolding sample_rows pieces_in
no_row = refl

fixed_pointer : pieces_gb18030 sample_flat sample_rows (0x81 ∷ 0x35 ∷ 0xF4 ∷ 0x37 ∷ []) ≡ well_formed 4 (0xE7C7 ∷ []) ∷ []
unfolding pieces_in
fixed_pointer = refl

-- the bytes after the first are read again
broken_third : pieces_gb18030 sample_flat sample_rows (0x81 ∷ 0x30 ∷ 0x41 ∷ []) ≡ malformed 1 ∷ well_formed 1 (0x30 ∷ []) ∷ well_formed 1 (0x41 ∷ []) ∷ []
unfolding pieces_in
broken_third = refl

broken_fourth : pieces_gb18030 sample_flat sample_rows (0x81 ∷ 0x30 ∷ 0x81 ∷ 0x41 ∷ []) ≡ malformed 1 ∷ well_formed 1 (0x30 ∷ []) ∷ well_formed 2 (0x4E04 ∷ []) ∷ []
unfolding sample_flat pieces_in
broken_fourth = refl

-- at the end
cut_after_one : pieces_gb18030 sample_flat sample_rows (0x81 ∷ []) ≡ malformed 1 ∷ []
unfolding pieces_in
cut_after_one = refl

cut_after_two : pieces_gb18030 sample_flat sample_rows (0x81 ∷ 0x30 ∷ []) ≡ malformed 2 ∷ []
unfolding pieces_in
cut_after_two = refl

cut_after_three : pieces_gb18030 sample_flat sample_rows (0x81 ∷ 0x30 ∷ 0x81 ∷ []) ≡ malformed 3 ∷ []
unfolding pieces_in
cut_after_three = refl

-- entries: U+4E00 at the first two leads' pointers, U+4E05 at 23750 and U+4E06 at 23939, the first and the last of FE
unfoldable wide : List ℕ
wide = replicate 381 0x4E00 ++ (replicate 23369 0 ++ (0x4E05 ∷ (replicate 188 0 ++ (0x4E06 ∷ []))))

-- the trails are 40 to 7E and 80 to FE
trail_ends : pieces_gb18030 wide [] (0x81 ∷ 0x40 ∷ 0x81 ∷ 0x7E ∷ 0x81 ∷ 0x80 ∷ 0x81 ∷ 0xFE ∷ []) ≡ replicate 4 (well_formed 2 (0x4E00 ∷ []))
unfolding wide pieces_in
trail_ends = refl

-- with another trail a pair is malformed: 3F and 7F are ASCII, and are read again; FF is not
no_trails : pieces_gb18030 wide [] (0x81 ∷ 0x3F ∷ 0x81 ∷ 0x7F ∷ 0x81 ∷ 0xFF ∷ 0x41 ∷ [])
    ≡ malformed 1 ∷ well_formed 1 (0x3F ∷ []) ∷ malformed 1 ∷ well_formed 1 (0x7F ∷ []) ∷ malformed 2 ∷ well_formed 1 (0x41 ∷ []) ∷ []
unfolding wide pieces_in
no_trails = refl

-- 7E and 80 are trails of neighbours; each lead has 190 pointers; FE leads, FF does not
unfoldable neighbours : List ℕ
neighbours = 0x4E00 ∷ (replicate 61 0 ++ (0x4E01 ∷ 0x4E02 ∷ (replicate 125 0 ++ (0x4E03 ∷ 0x4E04 ∷ []))))

pairs : pieces_gb18030 neighbours [] (0x81 ∷ 0x40 ∷ 0x81 ∷ 0x7E ∷ 0x81 ∷ 0x80 ∷ 0x81 ∷ 0xFE ∷ 0x82 ∷ 0x40 ∷ [])
    ≡ well_formed 2 (0x4E00 ∷ []) ∷ well_formed 2 (0x4E01 ∷ []) ∷ well_formed 2 (0x4E02 ∷ []) ∷ well_formed 2 (0x4E03 ∷ []) ∷ well_formed 2 (0x4E04 ∷ []) ∷ []
unfolding neighbours pieces_in
pairs = refl

last_lead : pieces_gb18030 wide [] (0xFE ∷ 0x40 ∷ 0xFE ∷ 0xFE ∷ 0xFF ∷ 0x40 ∷ [])
    ≡ well_formed 2 (0x4E05 ∷ []) ∷ well_formed 2 (0x4E06 ∷ []) ∷ malformed 1 ∷ well_formed 1 (0x40 ∷ []) ∷ []
unfolding wide pieces_in
last_lead = refl

-- ranges that give U+0080 to the pointer 0, and U+10000 to 189000: the second and the fourth byte are 30 to 39, the third 81 to FE
unfoldable ranges : List (ℕ × ℕ)
ranges = (0, 0x80) ∷ (189000, 0x10000) ∷ []

four_bytes_first : pieces_gb18030 [] ranges (0x81 ∷ 0x30 ∷ 0x81 ∷ 0x30 ∷ 0x81 ∷ 0x30 ∷ 0x81 ∷ 0x39 ∷ [])
    ≡ well_formed 4 (0x80 ∷ []) ∷ well_formed 4 (0x89 ∷ []) ∷ []
unfolding ranges pieces_in
four_bytes_first = refl

-- the pointers 1250, 11340 and 12600
four_bytes_up : pieces_gb18030 [] ranges (0x81 ∷ 0x30 ∷ 0xFE ∷ 0x30 ∷ 0x81 ∷ 0x39 ∷ 0x81 ∷ 0x30 ∷ 0x82 ∷ 0x30 ∷ 0x81 ∷ 0x30 ∷ [])
    ≡ well_formed 4 (0x562 ∷ []) ∷ well_formed 4 (0x2CCC ∷ []) ∷ well_formed 4 (0x31B8 ∷ []) ∷ []
unfolding ranges pieces_in
four_bytes_up = refl

-- 2F and 3A are no digits: what is after the lead is read again
no_second_digit : pieces_gb18030 [] ranges (0x81 ∷ 0x2F ∷ 0x81 ∷ 0x3A ∷ []) ≡ malformed 1 ∷ well_formed 1 (0x2F ∷ []) ∷ malformed 1 ∷ well_formed 1 (0x3A ∷ []) ∷ []
unfolding ranges pieces_in
no_second_digit = refl

no_fourth_digit : pieces_gb18030 [] ranges (0x81 ∷ 0x30 ∷ 0x81 ∷ 0x2F ∷ 0x81 ∷ 0x30 ∷ 0x81 ∷ 0x3A ∷ [])
    ≡ malformed 1 ∷ well_formed 1 (0x30 ∷ []) ∷ malformed 1 ∷ well_formed 1 (0x2F ∷ []) ∷ malformed 1 ∷ well_formed 1 (0x30 ∷ []) ∷ malformed 1 ∷ well_formed 1 (0x3A ∷ []) ∷ []
unfolding ranges pieces_in
no_fourth_digit = refl

-- nor are 80 and FF third bytes
no_third_byte : pieces_gb18030 [] ranges (0x81 ∷ 0x30 ∷ 0x80 ∷ 0x81 ∷ 0x30 ∷ 0xFF ∷ [])
    ≡ malformed 1 ∷ well_formed 1 (0x30 ∷ []) ∷ well_formed 1 (0x20AC ∷ []) ∷ malformed 1 ∷ well_formed 1 (0x30 ∷ []) ∷ malformed 1 ∷ []
unfolding ranges pieces_in
no_third_byte = refl

-- the last pointer in the basic plane and the one after it, the one before the first above it and that one
planes : pieces_gb18030 [] ranges (0x84 ∷ 0x31 ∷ 0xA4 ∷ 0x39 ∷ 0x84 ∷ 0x31 ∷ 0xA5 ∷ 0x30 ∷ 0x8F ∷ 0x39 ∷ 0xFE ∷ 0x39 ∷ 0x90 ∷ 0x30 ∷ 0x81 ∷ 0x30 ∷ [])
    ≡ well_formed 4 (0x9A7B ∷ []) ∷ malformed 4 ∷ malformed 4 ∷ well_formed 4 (0x10000 ∷ []) ∷ []
unfolding ranges pieces_in
planes = refl

-- FE leads four bytes too; FF does not
last_lead_of_four : pieces_gb18030 [] ranges (0xFE ∷ 0x30 ∷ 0x81 ∷ 0x30 ∷ 0xFF ∷ 0x30 ∷ []) ≡ malformed 4 ∷ malformed 1 ∷ well_formed 1 (0x30 ∷ []) ∷ []
unfolding ranges pieces_in
last_lead_of_four = refl

-- behind 30 an input cannot be cut: these four bytes are one piece, and two of them another
digit_inside : pieces_gb18030 sample_flat sample_rows (0x90 ∷ 0x30 ∷ 0x81 ∷ 0x30 ∷ []) ≡ well_formed 4 (0x10000 ∷ []) ∷ []
unfolding sample_rows pieces_in
digit_inside = refl

cut_behind_digit : pieces_gb18030 sample_flat sample_rows (0x90 ∷ 0x30 ∷ []) ≡ malformed 2 ∷ []
unfolding pieces_in
cut_behind_digit = refl

-- but behind 2F it can
slash_inside : pieces_gb18030 sample_flat sample_rows (0x90 ∷ 0x30 ∷ 0x81 ∷ 0x2F ∷ 0x30 ∷ []) ≡ malformed 1 ∷ well_formed 1 (0x30 ∷ []) ∷ malformed 1 ∷ well_formed 1 (0x2F ∷ []) ∷ well_formed 1 (0x30 ∷ []) ∷ []
unfolding sample_rows pieces_in
slash_inside = refl
