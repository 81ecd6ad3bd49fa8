use Rattle.recode.proofs.InputLemmas.{runs_read_back}
use Rattle.recode.proofs.laws.faithful_output_reads_back.Goals as goal

pub returns : goal.returns
returns c = runs_read_back
