use Rattle.std.proofs.Common.{arith, sym}
use Rattle.encoding_tables.proofs.SearchLemmas.{step_up, step_down}
use Rattle.encoding_tables.proofs.search.search_by_halves.Goals as goal

pub overflow_add-compared : goal.overflow_add-compared
overflow_add-compared c = let n = c.halves.invariant.digits 64 c.halves.invariant.small in omega (arith, n.0)

pub halves-preserved-then-is_below : goal.halves-preserved-then-is_below
halves-preserved-then-is_below c = step_up c.args.rows.now c.args.key c.halves.low c.halves.high c.halves.compared _
    c.requires c.halves.invariant c.halves-test.true (omega arith) (sym c.if-is_below.ensures)

pub halves-preserved : goal.halves-preserved
halves-preserved c = step_down c.args.rows.now c.args.key c.halves.low c.halves.high c.halves.compared _
    c.requires c.halves.invariant c.halves-test.true (omega arith) (λ below. let no = c.if-is_below.ensures in cc)
