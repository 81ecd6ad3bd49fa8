-- Worked rows of `specs/Iso2022JpAscii.antt`: the bytes that end ASCII in ISO-2022-JP, and their neighbours.
use Rattle.std.proofs.Common.{refl, arith}
use Rattle.encoding_mem.specs.Iso2022JpAscii.{IsIso2022JpAsciiByte}

-- the last ASCII character is one, 80 is none
last_ascii : IsIso2022JpAsciiByte 0x7F
last_ascii = (omega arith, λ e. absurd (omega (arith, e)), λ e. absurd (omega (arith, e)), λ e. absurd (omega (arith, e)))

first_above : ¬ (IsIso2022JpAsciiByte 0x80)
first_above byte = absurd (omega (arith, byte.0))

-- SHIFT OUT and SHIFT IN are errors, 0D and 10 beside them are not
before_shift_out : IsIso2022JpAsciiByte 0x0D
before_shift_out = (omega arith, λ e. absurd (omega (arith, e)), λ e. absurd (omega (arith, e)), λ e. absurd (omega (arith, e)))

shift_out : ¬ (IsIso2022JpAsciiByte 0x0E)
shift_out byte = byte.1 refl

shift_in : ¬ (IsIso2022JpAsciiByte 0x0F)
shift_in byte = byte.2 refl

behind_shift_in : IsIso2022JpAsciiByte 0x10
behind_shift_in = (omega arith, λ e. absurd (omega (arith, e)), λ e. absurd (omega (arith, e)), λ e. absurd (omega (arith, e)))

-- ESCAPE begins an escape, 1A and 1C beside it do not
before_escape : IsIso2022JpAsciiByte 0x1A
before_escape = (omega arith, λ e. absurd (omega (arith, e)), λ e. absurd (omega (arith, e)), λ e. absurd (omega (arith, e)))

escape : ¬ (IsIso2022JpAsciiByte 0x1B)
escape byte = byte.3 refl

behind_escape : IsIso2022JpAsciiByte 0x1C
behind_escape = (omega arith, λ e. absurd (omega (arith, e)), λ e. absurd (omega (arith, e)), λ e. absurd (omega (arith, e)))
