use Rattle.encoding_mem.specs.laws.Agreement.{broken_never_reads, broken_stays}
use Rattle.encoding_front.specs.Encodings.{pieces_of}
use Rattle.encoding_front.specs.laws.Encodings.{agrees_or_breaks}
use Rattle.encoding_front.proofs.laws.read_back.Goals as goal

pub returns-clause-texts : goal.returns-clause-texts
returns-clause-texts c = agrees_or_breaks

pub returns-clause-stays : goal.returns-clause-stays
returns-clause-stays c t e = broken_stays (pieces_of t e)

pub returns-clause-never : goal.returns-clause-never
returns-clause-never c t e = broken_never_reads (pieces_of t e)
