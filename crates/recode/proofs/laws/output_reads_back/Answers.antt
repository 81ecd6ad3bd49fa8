use Rattle.recode.proofs.InputLemmas.{quiet_back, reads_back, valid_back}
use Rattle.recode.proofs.laws.output_reads_back.Goals as goal

pub returns : goal.returns
returns c = record { jobs = valid_back; output = reads_back; log = quiet_back }
