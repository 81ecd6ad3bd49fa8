use Rattle.std.proofs.Common.{◌≤◌, ◌+◌, ◌∙◌, length, sym, arith}
use Rattle.encoding_mem.proofs.PrefixLemmas.{below_run}
use Rattle.encoding_mem.proofs.mem.first.vectors_of_units_below.Goals as goal

pub wide-preserved : goal.wide-preserved
wide-preserved c =
    let fits : c.wide.at + 32 ≤ length c.args.units.now = omega (arith, c.wide-test.true, c.wide.invariant.within) in
    record {
      within = omega (arith, fits);
      below = below_run c.args.units.now c.wide.at 32 32 c.args.limit fits c.wide.invariant.below (sym (c.all_units_below.ensures.all c.if-all_units_below.true));
    }

pub vectors-preserved : goal.vectors-preserved
vectors-preserved c =
    let fits : c.vectors.at + 8 ≤ length c.args.units.now = omega (arith, c.vectors-test.true, c.vectors.invariant.within) in
    record {
      within = omega (arith, fits);
      below = below_run c.args.units.now c.vectors.at 8 8 c.args.limit fits c.vectors.invariant.below (sym c.if-unit_lanes_below-eq-UNIT_LANES.true ∙ c.unit_lanes_below.ensures);
    }
