use Rattle.recode.proofs.InputLemmas.{runs_on_parts}
use Rattle.recode.proofs.laws.runs_on_parts_are_a_run.Goals as goal

pub returns : goal.returns
returns c = runs_on_parts
