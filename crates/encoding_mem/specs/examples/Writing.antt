-- Worked rows of `specs/calls/Writing.antt`, and of `WritesBytes` of `specs/calls/EncoderRule.antt`.
use Rattle.std.proofs.Common.{◌≡◌, ◌<◌, ℕ, List, [], ◌∷◌, drop, refl, ap, arith}
use Rattle.encoding_mem.specs.calls.EncoderRule.{WritesBytes}
use Rattle.encoding_mem.specs.calls.Writing.{len_utf16, encode_utf16_all, Adds}

-- the last character of one unit, and the first of two
one_unit : len_utf16 0xFFFF ≡ 1
one_unit = refl

two_units : len_utf16 0x10000 ≡ 2
two_units = refl

-- `A`, and U+1F4A9 as a surrogate pair
letter_and_pair : encode_utf16_all (0x41 ∷ 0x1F4A9 ∷ []) ≡ 0x41 ∷ 0xD83D ∷ 0xDCA9 ∷ []
letter_and_pair = refl

-- the last character of one unit, and the first and the last surrogate pair: U+FFFF, U+10000 and U+10FFFF
ends_of_pairs : encode_utf16_all (0xFFFF ∷ 0x10000 ∷ 0x10FFFF ∷ []) ≡ 0xFFFF ∷ 0xD800 ∷ 0xDC00 ∷ 0xDBFF ∷ 0xDFFF ∷ []
ends_of_pairs = refl

-- if one of four was written, two are written after it, and the last stays
two_behind_one : Adds (0x61 ∷ 0x62 ∷ 0x63 ∷ 0x64 ∷ []) 1 (0x41 ∷ 0x42 ∷ []) (0x61 ∷ 0x41 ∷ 0x42 ∷ 0x64 ∷ []) 3
two_behind_one = record { counted = refl; within = omega arith; list = refl }

-- What stands after the text stays: a byte that changed is refuted, of a decoder's destination and of an encoder's.
heads : (b c : ℕ) (x y : List ℕ) → b ∷ x ≡ c ∷ y → b < c → ⊥
heads b c x y same less = let is : b ≡ c = cc in omega (arith, is, less)

next_byte_stays : ¬ (Adds (0x61 ∷ 0x62 ∷ []) 0 (0x41 ∷ []) (0x41 ∷ 0x00 ∷ []) 1)
next_byte_stays adds = heads 0x00 0x62 [] [] (ap (λ (l : List ℕ). drop 1 l) adds.list) (omega arith)

next_byte_of_an_encoder_stays : ¬ (WritesBytes (0x61 ∷ 0x62 ∷ []) (0x41 ∷ 0x00 ∷ []) 1)
next_byte_of_an_encoder_stays writes = heads 0x00 0x62 [] [] writes.behind (omega arith)

-- The count is that of the text that was written: one more is refuted.
one_too_many_is_not_counted : ¬ (Adds (0x61 ∷ 0x62 ∷ []) 0 (0x41 ∷ []) (0x41 ∷ 0x62 ∷ []) 2)
one_too_many_is_not_counted adds = omega (arith, adds.counted)
