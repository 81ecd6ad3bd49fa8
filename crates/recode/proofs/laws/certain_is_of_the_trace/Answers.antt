use Rattle.recode.proofs.CertainLemmas.{same_in_one_set, trace_begins}
use Rattle.recode.proofs.laws.certain_is_of_the_trace.Goals as goal

pub returns : goal.returns
returns c = record { front = trace_begins; same = same_in_one_set }
