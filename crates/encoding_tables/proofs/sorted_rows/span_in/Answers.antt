use Rattle.encoding_tables.proofs.SearchLemmas.{span_here, span_past}
use Rattle.encoding_tables.proofs.sorted_rows.span_in.Goals as goal

pub returns-then-offset-begins : goal.returns-then-offset-begins
returns-then-offset-begins c = span_here c.args.rows.now c.args.begins.now c.args.first c.requires c.if-offset-begins.true

pub returns-else-offset-begins : goal.returns-else-offset-begins
returns-else-offset-begins c = span_past c.args.rows.now c.args.begins.now c.args.first c.requires c.if-offset-begins.false
