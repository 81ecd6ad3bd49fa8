use Rattle.encoding_index.proofs.StartLemmas.{outcomes_begin}
use Rattle.encoding_index.proofs.rows.IndexRows.next_row.Goals as goal

pub returns-then-row-self-2 : goal.returns-then-row-self-2
returns-then-row-self-2 c = outcomes_begin c.args.self.now.size c.args.self.now.least c.args.self.now.number c.args.self.now.rest.now c.in-Some.row c.in-Some.rest.now c.in-Some.ensures.row c.if-row-self.true c.if-row-self-2.true
