use Rattle.recode.specs.laws.Calls.{taken_first, taken_on}
use Rattle.recode.proofs.laws.calls_add_up.Goals as goal

pub returns : goal.returns
returns c = record { begins = taken_first; goes_on = taken_on }
