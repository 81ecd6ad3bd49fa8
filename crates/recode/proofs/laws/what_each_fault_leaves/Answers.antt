use Rattle.recode.proofs.LeavingLemmas.{fault_leaves}
use Rattle.recode.proofs.laws.what_each_fault_leaves.Goals as goal

pub returns : goal.returns
returns c = fault_leaves
