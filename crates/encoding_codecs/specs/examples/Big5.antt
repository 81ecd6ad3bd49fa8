-- Worked rows of `specs/Big5.antt`.
use Rattle.std.specs.Prelude.{◌≡◌, ℕ, List, [], ◌∷◌, ◌++◌, refl, replicate, map}
use Rattle.encoding_mem.specs.Piece.{well_formed, malformed}
use Rattle.encoding_mem.specs.Pieces.{pieces_in}
use Rattle.encoding_mem.specs.declared.codec.form.Form.TheVariants.{Mapped, Unmapped}
use Rattle.encoding_codecs.specs.Big5.{big5_pair_pointer, pieces_big5, big5_pair_bytes, big5_form}

-- 88 62, 88 64, 88 A3 and 88 A5 are the four pointers, even if an index maps nothing
letters_with_marks : pieces_big5 [] (0x88 ∷ 0x62 ∷ 0x88 ∷ 0x64 ∷ 0x88 ∷ 0xA3 ∷ 0x88 ∷ 0xA5 ∷ [])
    ≡ well_formed 2 (0xCA ∷ 0x304 ∷ []) ∷ well_formed 2 (0xCA ∷ 0x30C ∷ []) ∷ well_formed 2 (0xEA ∷ 0x304 ∷ []) ∷ well_formed 2 (0xEA ∷ 0x30C ∷ []) ∷ []
unfolding pieces_in
letters_with_marks = refl

-- a list for examples, of the first trails of the lead 81: U+43F0 at 40 and nothing at 41
unfoldable sample : List ℕ
sample = 0x43F0 ∷ 0 ∷ []

characters : pieces_big5 sample (0x81 ∷ 0x40 ∷ 0x41 ∷ []) ≡ well_formed 2 (0x43F0 ∷ []) ∷ well_formed 1 (0x41 ∷ []) ∷ []
unfolding sample pieces_in
characters = refl

-- 41 and 7F are ASCII, and are read again; 80 and FF are no trails; nothing begins with 80
wrong_trails : pieces_big5 sample (0x81 ∷ 0x41 ∷ 0x81 ∷ 0x7F ∷ 0x81 ∷ 0x80 ∷ 0x81 ∷ 0xFF ∷ 0x80 ∷ 0x81 ∷ [])
    ≡ malformed 1 ∷ well_formed 1 (0x41 ∷ []) ∷ malformed 1 ∷ well_formed 1 (0x7F ∷ []) ∷ malformed 2 ∷ malformed 2 ∷ malformed 1 ∷ malformed 1 ∷ []
unfolding sample pieces_in
wrong_trails = refl

-- the trails on both sides of the gap
before_gap : big5_pair_pointer 0xA4 0x51 ≡ 5512
before_gap = refl

after_gap : big5_pair_pointer 0xA1 0xA1 ≡ 5087
after_gap = refl

before_gap_bytes : big5_pair_bytes 5512 ≡ 0xA4 ∷ 0x51 ∷ []
before_gap_bytes = refl

after_gap_bytes : big5_pair_bytes 5087 ≡ 0xA1 ∷ 0xA1 ∷ []
after_gap_bytes = refl

first_bytes : big5_pair_bytes 5024 ≡ 0xA1 ∷ 0x40 ∷ []
first_bytes = refl

last_bytes : big5_pair_bytes 19781 ≡ 0xFE ∷ 0xFE ∷ []
last_bytes = refl

-- a pointer below 5024 is not written
extension : big5_form sample 0x43F0 ≡ Unmapped 0x43F0
unfolding sample
extension = refl

-- U+5341 takes its last pointer, U+4E00 its first
twice : ℕ → List ℕ
twice c = replicate 5024 0 ++ (c ∷ c ∷ [])

takes_the_last : big5_form (twice 0x5341) 0x5341 ≡ Mapped (0xA1 ∷ 0x41 ∷ [])
unfolding twice
takes_the_last = refl

takes_the_first : big5_form (twice 0x4E00) 0x4E00 ≡ Mapped (0xA1 ∷ 0x40 ∷ [])
unfolding twice
takes_the_first = refl

-- U+2550, U+255E, U+2561, U+256A, U+5341 and U+5345 take their last pointer, the scalar values beside them their first
unfoldable last_pointers : List ℕ
last_pointers = 0x2550 ∷ 0x255E ∷ 0x2561 ∷ 0x256A ∷ 0x5341 ∷ 0x5345 ∷ []

unfoldable other_scalars : List ℕ
other_scalars = 0x2551 ∷ 0x255D ∷ 0x2562 ∷ 0x2569 ∷ 0x5342 ∷ 0x5344 ∷ []

written_by_the_last : map (big5_form (replicate 5024 0 ++ (last_pointers ++ last_pointers))) last_pointers
    ≡ Mapped (0xA1 ∷ 0x46 ∷ []) ∷ Mapped (0xA1 ∷ 0x47 ∷ []) ∷ Mapped (0xA1 ∷ 0x48 ∷ []) ∷ Mapped (0xA1 ∷ 0x49 ∷ []) ∷ Mapped (0xA1 ∷ 0x4A ∷ []) ∷ Mapped (0xA1 ∷ 0x4B ∷ []) ∷ []
unfolding last_pointers
written_by_the_last = refl

written_by_the_first : map (big5_form (replicate 5024 0 ++ (other_scalars ++ other_scalars))) other_scalars
    ≡ Mapped (0xA1 ∷ 0x40 ∷ []) ∷ Mapped (0xA1 ∷ 0x41 ∷ []) ∷ Mapped (0xA1 ∷ 0x42 ∷ []) ∷ Mapped (0xA1 ∷ 0x43 ∷ []) ∷ Mapped (0xA1 ∷ 0x44 ∷ []) ∷ Mapped (0xA1 ∷ 0x45 ∷ []) ∷ []
unfolding other_scalars
written_by_the_first = refl

-- an index with one entry
abbrev at : ℕ → ℕ → List ℕ
at pointer c = replicate pointer 0 ++ (c ∷ [])

-- pointers from 5024 to 19781 are written, by the first and by the last
pointers_of_the_first : map (λ p. big5_form (at p 0x4E00) 0x4E00) (5023 ∷ 5024 ∷ 19781 ∷ 19782 ∷ [])
    ≡ Unmapped 0x4E00 ∷ Mapped (0xA1 ∷ 0x40 ∷ []) ∷ Mapped (0xFE ∷ 0xFE ∷ []) ∷ Unmapped 0x4E00 ∷ []
pointers_of_the_first = refl

pointers_of_the_last : map (λ p. big5_form (at p 0x5341) 0x5341) (5023 ∷ 5024 ∷ 19781 ∷ 19782 ∷ [])
    ≡ Unmapped 0x5341 ∷ Mapped (0xA1 ∷ 0x40 ∷ []) ∷ Mapped (0xFE ∷ 0xFE ∷ []) ∷ Unmapped 0x5341 ∷ []
pointers_of_the_last = refl

-- U+007F is ASCII, U+0080 is not
ascii_end : map (big5_form []) (0x7F ∷ 0x80 ∷ []) ≡ Mapped (0x7F ∷ []) ∷ Unmapped 0x80 ∷ []
ascii_end = refl

-- the trails 7E and A1 stand side by side, FE before the next lead
bytes_side_by_side : map big5_pair_bytes (5086 ∷ 5087 ∷ 5180 ∷ 5181 ∷ [])
    ≡ (0xA1 ∷ 0x7E ∷ []) ∷ (0xA1 ∷ 0xA1 ∷ []) ∷ (0xA1 ∷ 0xFE ∷ []) ∷ (0xA2 ∷ 0x40 ∷ []) ∷ []
bytes_side_by_side = refl

unfoldable neighbours : List ℕ
neighbours = 0x4E00 ∷ (replicate 61 0 ++ (0x4E01 ∷ 0x4E02 ∷ (replicate 92 0 ++ (0x4E03 ∷ 0x4E04 ∷ []))))

trail_ends : pieces_big5 neighbours (0x81 ∷ 0x40 ∷ 0x81 ∷ 0x7E ∷ 0x81 ∷ 0xA1 ∷ 0x81 ∷ 0xFE ∷ 0x82 ∷ 0x40 ∷ [])
    ≡ well_formed 2 (0x4E00 ∷ []) ∷ well_formed 2 (0x4E01 ∷ []) ∷ well_formed 2 (0x4E02 ∷ []) ∷ well_formed 2 (0x4E03 ∷ []) ∷ well_formed 2 (0x4E04 ∷ []) ∷ []
unfolding neighbours pieces_in
trail_ends = refl

-- with another trail a pair is malformed, whatever the index holds: 3F and 7F are ASCII, and are read again
no_trails : pieces_big5 (replicate 320 0x4E00) (0x81 ∷ 0x3F ∷ 0x81 ∷ 0x7F ∷ 0x81 ∷ 0x80 ∷ 0x81 ∷ 0xA0 ∷ 0x81 ∷ 0xFF ∷ [])
    ≡ malformed 1 ∷ well_formed 1 (0x3F ∷ []) ∷ malformed 1 ∷ well_formed 1 (0x7F ∷ []) ∷ malformed 2 ∷ malformed 2 ∷ malformed 2 ∷ []
unfolding pieces_in
no_trails = refl

-- FE leads, at the pointers 19625 to 19781; 80 and FF do not
last_lead : pieces_big5 (replicate 19625 0 ++ (0x4E00 ∷ (replicate 155 0 ++ (0x4E01 ∷ [])))) (0xFE ∷ 0x40 ∷ 0xFE ∷ 0xFE ∷ 0xFF ∷ 0x40 ∷ 0x80 ∷ 0x40 ∷ [])
    ≡ well_formed 2 (0x4E00 ∷ []) ∷ well_formed 2 (0x4E01 ∷ []) ∷ malformed 1 ∷ well_formed 1 (0x40 ∷ []) ∷ malformed 1 ∷ well_formed 1 (0x40 ∷ []) ∷ []
unfolding pieces_in
last_lead = refl

-- the four pointers give their letters whatever the index holds, and those beside them what it holds
beside_letters : pieces_big5 (replicate 1168 0x4E00) (0x88 ∷ 0x61 ∷ 0x88 ∷ 0x62 ∷ 0x88 ∷ 0x63 ∷ 0x88 ∷ 0x64 ∷ 0x88 ∷ 0x65 ∷ 0x88 ∷ 0xA2 ∷ 0x88 ∷ 0xA3 ∷ 0x88 ∷ 0xA4 ∷ 0x88 ∷ 0xA5 ∷ 0x88 ∷ 0xA6 ∷ [])
    ≡ well_formed 2 (0x4E00 ∷ []) ∷ well_formed 2 (0xCA ∷ 0x304 ∷ []) ∷ well_formed 2 (0x4E00 ∷ []) ∷ well_formed 2 (0xCA ∷ 0x30C ∷ []) ∷ well_formed 2 (0x4E00 ∷ [])
    ∷ well_formed 2 (0x4E00 ∷ []) ∷ well_formed 2 (0xEA ∷ 0x304 ∷ []) ∷ well_formed 2 (0x4E00 ∷ []) ∷ well_formed 2 (0xEA ∷ 0x30C ∷ []) ∷ well_formed 2 (0x4E00 ∷ []) ∷ []
unfolding pieces_in
beside_letters = refl
