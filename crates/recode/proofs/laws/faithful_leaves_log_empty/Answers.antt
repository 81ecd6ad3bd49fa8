use Rattle.recode.proofs.StepLemmas.{quiet_where_faithful}
use Rattle.recode.proofs.laws.faithful_leaves_log_empty.Goals as goal

pub returns : goal.returns
returns c = quiet_where_faithful
