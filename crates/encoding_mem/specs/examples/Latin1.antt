-- Worked rows of `specs/Latin1.antt`.
use Rattle.std.proofs.Common.{zero, suc, [], ◌∷◌, arith}
use Rattle.encoding_mem.specs.Latin1.{AllLatin1}

-- U+00FF is the last character of Latin1
last_is_latin1 : AllLatin1 (0x41 ∷ 0xFF ∷ [])
last_is_latin1 zero = omega arith
last_is_latin1 (suc zero) = omega arith
last_is_latin1 (suc (suc i)) = omega arith

next_is_not : ¬ (AllLatin1 (0x41 ∷ 0x100 ∷ []))
next_is_not latin1 = let second = latin1 1 in absurd (omega (arith, second))
