-- Worked rows of `specs/Parts.antt`.
use Rattle.std.specs.Prelude.{[], ◌∷◌, refl}
use Rattle.std.proofs.Common.{arith}
use Rattle.encoding_mem.specs.Parts.{EndsInCut, IsCutByte}

-- 2F is the last; 30 is a byte of characters of four bytes in gb18030 (the rows of `encoding_codecs`)
slash : IsCutByte 0x2F
slash = omega arith

zero_digit : IsCutByte 0x30 → ⊥
zero_digit h = omega (arith, h)

line : EndsInCut (0x41 ∷ 0x0A ∷ [])
line = record { before = 0x41 ∷ []; byte = 0x0A; is_cut = omega arith; split = refl }
