use Rattle.recode.proofs.InputLemmas.{lost_is_told}
use Rattle.recode.proofs.laws.lost_is_told.Goals as goal

pub returns : goal.returns
returns c = lost_is_told
