-- Worked rows of `specs/SingleByte.antt`.
use Rattle.std.proofs.Common.{ℕ, zero, suc, ◌<◌, refl, ap, arith}
use Rattle.std.specs.Prelude.{◌≡◌, ℕ, List, [], ◌∷◌, ◌++◌, None, Some, replicate, slice_index, ◌≢◌}
use Rattle.encoding_mem.specs.Piece.{well_formed, malformed, scalars}
use Rattle.encoding_mem.specs.Pieces.{pieces_in}
use Rattle.encoding_tables.specs.SingleByte.{char_of_byte, single_byte_of_char, pieces_single_byte, IsLatin1UpTo}
use Rattle.encoding_tables.specs.laws.SingleByte.{first_piece_single_byte}

-- a list for examples, from 80 on: U+20AC, nothing, U+00E9, U+00E9
sample : List ℕ
sample = 0x20AC ∷ 0 ∷ 0xE9 ∷ 0xE9 ∷ replicate 124 0

ascii : char_of_byte sample 0x41 ≡ Some 0x41
unfolding sample
ascii = refl

euro : char_of_byte sample 0x80 ≡ Some 0x20AC
unfolding sample
euro = refl

nothing : first_piece_single_byte sample (0x81 ∷ 0x41 ∷ []) ≡ malformed 1
unfolding sample
nothing = refl

last_byte : char_of_byte sample 0xFF ≡ None
unfolding sample
last_byte = refl

first_of_two : single_byte_of_char sample 0xE9 ≡ Some 0x82
unfolding sample
first_of_two = refl

second_of_two : char_of_byte sample 0x83 ≡ Some 0xE9
unfolding sample
second_of_two = refl

no_byte : single_byte_of_char sample 0x81 ≡ None
unfolding sample
no_byte = refl

nul : single_byte_of_char sample 0 ≡ Some 0
unfolding sample
nul = refl

in_a_row : pieces_single_byte sample (0x41 ∷ 0x80 ∷ 0x81 ∷ []) ≡ well_formed 1 (0x41 ∷ []) ∷ well_formed 1 (0x20AC ∷ []) ∷ malformed 1 ∷ []
unfolding sample pieces_in
in_a_row = refl

-- the last ASCII character, either way
last_ascii : char_of_byte sample 0x7F ≡ Some 0x7F
unfolding sample
last_ascii = refl

last_ascii_back : single_byte_of_char sample 0x7F ≡ Some 0x7F
unfolding sample
last_ascii_back = refl

-- U+0080 is looked up; here it has no byte
above_ascii : single_byte_of_char sample 0x80 ≡ None
unfolding sample
above_ascii = refl

-- the first pointer is 80
euro_back : single_byte_of_char sample 0x20AC ≡ Some 0x80
unfolding sample
euro_back = refl

-- of windows-1253: Α at 65 is C1, τ at 116 is F4
greek : List ℕ
greek = replicate 65 0 ++ (0x391 ∷ (replicate 50 0 ++ (0x3C4 ∷ replicate 11 0)))

alpha : single_byte_of_char greek 0x391 ≡ Some 0xC1
unfolding greek
alpha = refl

tau : single_byte_of_char greek 0x3C4 ≡ Some 0xF4
unfolding greek
tau = refl

tau_read : pieces_single_byte greek (0xF4 ∷ 0xF5 ∷ []) ≡ well_formed 1 (0x3C4 ∷ []) ∷ malformed 1 ∷ []
unfolding greek pieces_in
tau_read = refl

-- the last pointer, 127, is FF
last_pointer_is_last_byte : single_byte_of_char (replicate 127 0 ++ (0xFF ∷ [])) 0xFF ≡ Some 0xFF
last_pointer_is_last_byte = refl

euro_is_another : well_formed 1 (0x20AC ∷ []) ∷ [] ≢ well_formed 1 (0x80 ∷ []) ∷ []
euro_is_another e = let characters : 0x20AC ≡ 0x80 = ap (λ ps. slice_index (scalars ps) 0) e in absurd (omega (arith, characters))

-- 80 is U+20AC here, as in windows-1252: only the bytes before it are the characters with their numbers
letters_before_euro : IsLatin1UpTo (pieces_single_byte sample) (0x41 ∷ 0x42 ∷ 0x80 ∷ []) 2
unfolding sample pieces_in
letters_before_euro = record { within = omega arith; same = each_letter; other = λ more. euro_is_another }
  where
    each_letter : (k : ℕ) → k < 2 → pieces_single_byte sample (slice_index (0x41 ∷ 0x42 ∷ 0x80 ∷ []) k ∷ []) ≡ well_formed 1 (slice_index (0x41 ∷ 0x42 ∷ 0x80 ∷ []) k ∷ []) ∷ []
    each_letter zero less = refl
    each_letter (suc zero) less = refl
    each_letter (suc (suc k)) less = absurd (omega (arith, less))

-- the bytes before it that are told are all of them: one for two is refuted, and the byte 80 itself
one_letter_is_not_all : ¬ (IsLatin1UpTo (pieces_single_byte sample) (0x41 ∷ 0x42 ∷ 0x80 ∷ []) 1)
unfolding sample pieces_in
one_letter_is_not_all told = told.other (omega arith) refl

euro_is_not_told : ¬ (IsLatin1UpTo (pieces_single_byte sample) (0x80 ∷ []) 1)
unfolding sample pieces_in
euro_is_not_told told = euro_is_another (told.same 0 (omega arith))
