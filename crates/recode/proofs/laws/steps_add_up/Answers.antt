use Rattle.recode.proofs.LatencyLemmas.{stands_first, stands_on}
use Rattle.recode.proofs.laws.steps_add_up.Goals as goal

pub returns : goal.returns
returns c = record { first = stands_first; next = stands_on }
