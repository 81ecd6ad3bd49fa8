use Rattle.std.proofs.Common.{arith}
use Rattle.encoding_tables.proofs.RowLemmas.{pointers_rise, at_most_the_size}
use Rattle.encoding_tables.proofs.packed_index.PackedIndex.new.Goals as goal

pub reversed-requires-clause-few : goal.reversed-requires-clause-few
reversed-requires-clause-few c = let few = at_most_the_size c.args.size c.args.rows.now c.requires.rows in omega (arith, few, c.requires.small)

pub new-requires-clause-rising : goal.new-requires-clause-rising
new-requires-clause-rising c = pointers_rise c.args.rows.now c.requires.rows.rise

pub new-requires-clause-few : goal.new-requires-clause-few
new-requires-clause-few c = let few = at_most_the_size c.args.size c.args.rows.now c.requires.rows in omega (arith, few, c.requires.small)

pub new-requires-clause-below : goal.new-requires-clause-below
new-requires-clause-below c = λ k within. omega (arith, c.requires.rows.below k within, c.requires.small)
