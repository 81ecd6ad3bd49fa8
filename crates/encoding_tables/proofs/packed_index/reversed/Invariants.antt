use Rattle.encoding_tables.proofs.CountLemmas.{AreBeingPlaced}
use Rattle.encoding_tables.proofs.packed_index.reversed.Given as goal

abbrev pub invariant-rows : goal.invariant-rows
invariant-rows l = AreBeingPlaced l.rows l.at l.begins.items l.pairs.items

abbrev pub decreases-rows : goal.decreases-rows
decreases-rows l = l.at
