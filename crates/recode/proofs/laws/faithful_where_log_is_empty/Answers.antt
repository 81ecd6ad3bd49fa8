use Rattle.recode.proofs.InputLemmas.{faithful_quiet}
use Rattle.recode.proofs.laws.faithful_where_log_is_empty.Goals as goal

pub returns : goal.returns
returns c = faithful_quiet
