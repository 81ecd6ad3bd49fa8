use Rattle.encoding_mem.specs.laws.Agreement.{broken_stays, broken_never_reads}
use Rattle.encoding_mem.proofs.laws.broken_stays_broken.Goals as goal

pub returns-clause-stays : goal.returns-clause-stays
returns-clause-stays c = broken_stays

pub returns-clause-never : goal.returns-clause-never
returns-clause-never c = broken_never_reads
