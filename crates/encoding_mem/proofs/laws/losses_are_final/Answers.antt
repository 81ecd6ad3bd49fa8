use Rattle.encoding_mem.specs.laws.ReadCalls.{differing_part_never_reads, lost_never_reads}
use Rattle.encoding_mem.proofs.laws.losses_are_final.Goals as goal

pub returns-clause-part : goal.returns-clause-part
returns-clause-part c = differing_part_never_reads

pub returns-clause-lost : goal.returns-clause-lost
returns-clause-lost c = lost_never_reads
