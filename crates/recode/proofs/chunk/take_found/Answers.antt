use Rattle.recode.proofs.WriterLemmas.{hands_under}
use Rattle.recode.proofs.chunk.take_found.Goals as goal

pub returns-in-Bad-clause-hands : goal.returns-in-Bad-clause-hands
returns-in-Bad-clause-hands g c = rw c.in-Bad.is (hands_under c.hold_line.ensures.hands)
