-- Worked rows of `specs/Work.antt`.
use Rattle.std.specs.Prelude.{◌≡◌, ℕ, [], ◌∷◌, refl}
use Rattle.std.proofs.Common.{arith}
use Rattle.encoding_mem.specs.Items.{Byte, LostAt}
use Rattle.recode.specs.Work.{IsCounted, TakesAtLeast, TakesCalls, ended_count, fewest_calls, most_calls}
use Rattle.recode.specs.declared.counts.Counts.{Counts}
use Rattle.std.specs.Prelude.{true, false}

abbrev counts : (index calls : ℕ) → Counts
counts index calls = record { read = 9; index = index; bad = 0; lost = 0; calls = calls }

-- two characters passed, and three items were written, a line among them: 4 * 2 + 2 * 3 calls, and one more
as_many : TakesCalls 1 (counts 5 10) (counts 7 25) (Byte 0x41 ∷ LostAt 6 232 ∷ Byte 0x26 ∷ Byte 0x42 ∷ []) (Byte 0x42 ∷ [])
as_many = omega arith

no_more : TakesCalls 1 (counts 5 10) (counts 7 26) (Byte 0x41 ∷ LostAt 6 232 ∷ Byte 0x26 ∷ Byte 0x42 ∷ []) (Byte 0x42 ∷ []) → ⊥
no_more h = absurd (omega (arith, h))

at_end : ended_count true ≡ 1
at_end = refl

before_end : ended_count false ≡ 0
before_end = refl

-- a line of a lost character, and two more
abbrev with_lost : (lost calls : ℕ) → Counts
with_lost lost calls = record { read = 9; index = 7; bad = 0; lost = lost; calls = calls }

at_least : TakesAtLeast 2 (with_lost 1 10) (with_lost 2 13)
at_least = λ under. omega arith

no_less : TakesAtLeast 2 (with_lost 1 10) (with_lost 2 12) → ⊥
no_less h = absurd (omega (arith, h (omega arith)))

-- if the count has stopped nothing is said
stopped : TakesAtLeast 2 (with_lost 1 18446744073709551615) (with_lost 2 18446744073709551615)
stopped = λ under. absurd (omega (arith, under))

-- the count stops at 2^64 - 1
counted_last : IsCounted 1 1 18446744073709551614 18446744073709551615
counted_last = record { at_least = λ h. absurd (omega (arith, h)); at_most = omega arith }

counted_no_more : IsCounted 1 1 18446744073709551615 18446744073709551615
counted_no_more = record { at_least = λ h. absurd (omega (arith, h)); at_most = omega arith }

counted_one : IsCounted 1 1 5 6
counted_one = record { at_least = λ h. omega arith; at_most = omega arith }

not_none : IsCounted 1 1 5 5 → ⊥
not_none h = absurd (omega (arith, h.at_least (omega arith)))

-- an input with no byte, and one with two
fewest_without_a_byte : fewest_calls 0 0 0 ≡ 2
fewest_without_a_byte = refl

fewest_of_two : fewest_calls 2 0 0 ≡ 4
fewest_of_two = refl

fewest_with_a_malformed_sequence : fewest_calls 2 1 0 ≡ 7
fewest_with_a_malformed_sequence = refl

fewest_with_a_lost_character : fewest_calls 2 1 1 ≡ 8
fewest_with_a_lost_character = refl

most_without_a_byte : most_calls 0 ≡ 9
most_without_a_byte = refl

most_of_two : most_calls 2 ≡ 83
most_of_two = refl
