use Rattle.recode.proofs.DeterminedLemmas.{same_reads, same_taken}
use Rattle.recode.proofs.laws.what_a_fault_leaves_is_determined.Goals as goal

pub returns : goal.returns
returns c = record { reads = same_reads; taken = same_taken }
