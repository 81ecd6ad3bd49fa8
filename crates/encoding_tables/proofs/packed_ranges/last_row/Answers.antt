use Rattle.std.proofs.Common.{sym}
use Rattle.encoding_tables.proofs.SearchLemmas.{none_below, some_below}
use Rattle.encoding_tables.proofs.packed_ranges.last_row.Goals as goal

pub returns-then-below-eq0 : goal.returns-then-below-eq0
returns-then-below-eq0 c = sym (none_below c.args.number c.search-below.result.0 c.args.rows.now c.if-below-eq0.true c.search-below.ensures.rank)

pub returns-else-below-eq0 : goal.returns-else-below-eq0
returns-else-below-eq0 c = sym (some_below c.args.number c.search-below.result.0 c.args.rows.now c.if-below-eq0.false c.search-below.ensures.rank)
