-- Worked rows of `specs/calls/EntryCounts.antt`: the entry 4 at the pointers 0 and 7, the entry 5 at 3.
use Rattle.std.proofs.Common.{[], ◌∷◌, refl, ℕ, List}
use Rattle.std.specs.Prelude.{◌≡◌}
use Rattle.encoding_tables.specs.calls.EntryCounts.{pairs_below, rows_of_entry}

rows : List (ℕ × ℕ)
rows = (0, 4) ∷ (3, 5) ∷ (7, 4) ∷ []

both_of_one_entry : rows_of_entry 4 rows ≡ (4, 0) ∷ (4, 7) ∷ []
unfolding rows
both_of_one_entry = refl

none_of_another : rows_of_entry 6 rows ≡ []
unfolding rows
none_of_another = refl

-- those of the entry 5 stand after both of 4, and are not below 5
below_five : pairs_below 5 rows ≡ (4, 0) ∷ (4, 7) ∷ []
unfolding rows
below_five = refl

below_six : pairs_below 6 rows ≡ (4, 0) ∷ (4, 7) ∷ (5, 3) ∷ []
unfolding rows
below_six = refl
