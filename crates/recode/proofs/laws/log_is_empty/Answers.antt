use Rattle.recode.proofs.StopLemmas.{quiet_where_kept, kept_where_quiet}
use Rattle.recode.proofs.laws.log_is_empty.Goals as goal

pub returns : goal.returns
returns c = λ j x. (kept_where_quiet j x, λ h. quiet_where_kept j x h.0 h.1)
