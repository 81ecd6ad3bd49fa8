use Rattle.recode.proofs.InputLemmas.{same_bytes, same_reports, same_runs, same_written}
use Rattle.recode.proofs.laws.runs_agree.Goals as goal

pub returns : goal.returns
returns c = record { written = same_written; report = same_reports; known = same_runs; bytes = same_bytes }
