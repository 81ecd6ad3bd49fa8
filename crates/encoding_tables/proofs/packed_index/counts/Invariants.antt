use Rattle.encoding_tables.proofs.CountLemmas.{AreCounted}
use Rattle.encoding_tables.proofs.packed_index.counts.Given as goal

abbrev pub invariant-rows : goal.invariant-rows
invariant-rows l = AreCounted l.rows l.at l.counts.items
