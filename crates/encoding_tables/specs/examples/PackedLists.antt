-- What is found by a first number among rows.
use Rattle.std.proofs.Common.{[], ◌∷◌, zero, suc, refl, arith, None, Some}
use Rattle.encoding_tables.specs.calls.PackedLists.{IsSecond}

five_has_eight : IsSecond ((3, 9) ∷ (5, 8) ∷ []) 5 (Some 8)
five_has_eight = (1, omega arith, refl)

four_has_none : IsSecond ((3, 9) ∷ (5, 8) ∷ []) 4 None
four_has_none zero more is = omega (arith, is)
four_has_none (suc zero) more is = omega (arith, is)
four_has_none (suc (suc k)) more is = absurd (omega (arith, more))

three_is_not_without : ¬ (IsSecond ((3, 9) ∷ (5, 8) ∷ []) 3 None)
three_is_not_without none = none 0 (omega arith) refl
