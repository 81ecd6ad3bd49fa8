-- Worked rows of `specs/calls/SortedRows.antt`.
use Rattle.std.proofs.Common.{zero, suc, [], ◌∷◌, refl, arith}
use Rattle.std.specs.Prelude.{◌≡◌, ◌+◌, ◌<◌, ℕ, List, replicate, slice_index, true, false}
use Rattle.std.proofs.lemmas.List.{length-replicate}
use Rattle.encoding_tables.specs.calls.SortedRows.{is_below, AreRising, AreSorted, IsRank, IsTight, IsWithinDigits}

by_the_first : is_below (3, 9) (4, 0) ≡ true
by_the_first = refl

by_the_second : is_below (3, 8) (3, 9) ≡ true
by_the_second = refl

not_below_itself : is_below (3, 9) (3, 9) ≡ false
not_below_itself = refl

the_second_alone_is_not_enough : is_below (4, 0) (3, 9) ≡ false
the_second_alone_is_not_enough = refl

-- rows that rise by the second number if the first is the same, and a row that stands twice
rising : AreRising ((3, 8) ∷ (3, 9) ∷ (4, 0) ∷ [])
rising zero more = refl
rising (suc zero) more = refl
rising (suc (suc k)) more = absurd (omega (arith, more))

twice_is_sorted : AreSorted ((3, 9) ∷ (3, 9) ∷ [])
twice_is_sorted zero more below = cc
twice_is_sorted (suc k) more below = absurd (omega (arith, more))

twice_is_not_rising : ¬ (AreRising ((3, 9) ∷ (3, 9) ∷ []))
twice_is_not_rising rise = let first = rise 0 (omega arith) in cc

falling : ¬ (AreSorted ((3, 9) ∷ (3, 8) ∷ []))
falling sorted = sorted 0 (omega arith) refl

-- the directory of the rows 1 and 3: none stands before 0 and 1, one before 2 and 3, and there are two
stands : (first : ℕ) → first + 1 < 5 → slice_index (0 ∷ 0 ∷ 1 ∷ 1 ∷ 2 ∷ []) first < 2
stands zero less = omega arith
stands (suc zero) less = omega arith
stands (suc (suc zero)) less = omega arith
stands (suc (suc (suc zero))) less = omega arith
stands (suc (suc (suc (suc k)))) less = absurd (omega (arith, less))

tight : IsTight ((1, 9) ∷ (3, 8) ∷ []) (0 ∷ 0 ∷ 1 ∷ 1 ∷ 2 ∷ [])
tight = record { stands = stands; short = omega arith }

-- with a number that is greater than that of each row it names a place without a row
not_tight : ¬ (IsTight ((1, 9) ∷ []) (0 ∷ 0 ∷ 1 ∷ 1 ∷ []))
not_tight t = omega (arith, t.stands 2 (omega arith))

-- nor has it a place for a number above 2^16 - 1, and one more after it
not_tight_for_great_numbers : (rows : List (ℕ × ℕ)) → ¬ (IsTight rows (replicate 65538 0))
not_tight_for_great_numbers rows t = omega (arith, t.short, length-replicate {A = ℕ} 65538 0)

-- A search for a row that is there returns its position: the position after it is refuted.
row_is_not_missed : IsRank ((3, 9) ∷ (5, 8) ∷ []) (5, 8) 2 → ⊥
row_is_not_missed rank = let below = rank.below 1 (omega arith) in cc

-- A search for a key that no row has returns how many rows are below it: a position before one of these is refuted.
absent_key_is_between : IsRank ((3, 9) ∷ (5, 8) ∷ []) (4, 0) 0 → ⊥
absent_key_is_between rank = rank.others 0 (omega arith) (omega arith) refl

-- A position after the last row and one more is refuted.
rank_is_not_past_the_end : IsRank ((3, 9) ∷ []) (4, 0) 2 → ⊥
rank_is_not_past_the_end rank = omega (arith, rank.within)

-- A search among 7 rows makes at most 3 comparisons: 4 are refuted, and so is a search row by row.
four_of_seven_are_too_many : IsWithinDigits 4 7 → ⊥
four_of_seven_are_too_many within = omega (arith, within 3 (omega arith))
