-- Worked rows of `specs/Surrogates.antt`: the first and the last surrogates of both kinds, and the units beside them.
-- What is done about those without a partner is in `Texts`.
use Rattle.std.proofs.Common.{inl, inr, [], ◌∷◌, refl, arith}
use Rattle.encoding_mem.specs.Surrogates.{IsHighSurrogate, IsLowSurrogate, IsLoneSurrogate}

before_the_first_high : ¬ (IsHighSurrogate 0xD7FF)
before_the_first_high high = absurd (omega (arith, high.0))

first_high : IsHighSurrogate 0xD800
first_high = (omega arith, omega arith)

last_high : IsHighSurrogate 0xDBFF
last_high = (omega arith, omega arith)

low_is_not_high : ¬ (IsHighSurrogate 0xDC00)
low_is_not_high high = absurd (omega (arith, high.1))

high_is_not_low : ¬ (IsLowSurrogate 0xDBFF)
high_is_not_low low = absurd (omega (arith, low.0))

first_low : IsLowSurrogate 0xDC00
first_low = (omega arith, omega arith)

last_low : IsLowSurrogate 0xDFFF
last_low = (omega arith, omega arith)

behind_the_last_low : ¬ (IsLowSurrogate 0xE000)
behind_the_last_low low = absurd (omega (arith, low.1))

-- neither unit of U+1F4A9 is alone
high_of_pair : ¬ (IsLoneSurrogate (0xD83D ∷ 0xDCA9 ∷ []) 0)
high_of_pair (inl alone) = alone.1 (omega arith, omega arith)
high_of_pair (inr alone) = absurd (omega (arith, alone.0.0))

low_of_pair : ¬ (IsLoneSurrogate (0xD83D ∷ 0xDCA9 ∷ []) 1)
low_of_pair (inl alone) = absurd (omega (arith, alone.0.1))
low_of_pair (inr alone) = alone.1 0 refl (omega arith, omega arith)

-- the same two with a letter between them are, and so is a high one at the end
high_before_letter : IsLoneSurrogate (0xD83D ∷ 0x41 ∷ 0xDCA9 ∷ []) 0
high_before_letter = inl ((omega arith, omega arith), λ low. absurd (omega (arith, low.0)))

high_at_the_end : IsLoneSurrogate (0x41 ∷ 0xD83D ∷ []) 1
high_at_the_end = inl ((omega arith, omega arith), λ low. absurd (omega (arith, low.0)))
