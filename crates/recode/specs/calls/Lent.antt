-- What a call is lent, and what of that is enough.
use Rattle.std.specs.Prelude.{◌≡◌}
use Rattle.recode.specs.calls.Buffers.{HoldsAnyCharacter, KeepsRoom, is_wide}
use Rattle.recode.specs.declared.job.Pivot.{Pivot}

-- enough for a chunk: pivot and check of one form for any character
pub record AreLent (p c : Pivot) : Type 0 where
  pub pivot : HoldsAnyCharacter p
  pub check : HoldsAnyCharacter c
  pub one_form : is_wide c ≡ is_wide p

-- pivot and check are of the kinds and sizes that they were of
pub record KeepsLent (p c p' c' : Pivot) : Type 0 where
  pub pivot : KeepsRoom p p'
  pub check : KeepsRoom c c'
