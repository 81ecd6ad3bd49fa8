use Rattle.recode.proofs.InputLemmas.{lost_is_unfaithful}
use Rattle.recode.proofs.laws.lost_is_unfaithful.Goals as goal

pub returns : goal.returns
returns c = lost_is_unfaithful
