use Rattle.std.proofs.Common.{◌-◌, ◌≤◌, ◌+◌, length, sym, arith}
use Rattle.std.specs.Prelude.{nat_le}
use Rattle.std.proofs.lemmas.Bool.{leb-true}
use Rattle.std.proofs.lemmas.Simd.{run_in_chunk_le, run_in_chunk_stops}
use Rattle.encoding_mem.proofs.PrefixLemmas.{below_run, below_last}
use Rattle.encoding_mem.proofs.mem.first.first_unit_from.Goals as goal

pub wide-preserved : goal.wide-preserved
wide-preserved c =
    let fits : c.wide.at + 32 ≤ length c.args.units.now = omega (arith, c.wide-test.true, c.wide.invariant.within) in
    record {
      within = omega (arith, fits);
      below = below_run c.args.units.now c.wide.at 32 32 c.args.limit fits c.wide.invariant.below (sym (c.all_units_below.ensures.all c.if-all_units_below.true));
    }

pub returns-then-low-lt-UNIT_LANES-clause-below : goal.returns-then-low-lt-UNIT_LANES-clause-below
returns-then-low-lt-UNIT_LANES-clause-below c =
    let fits : c.runs.at + 8 ≤ length c.args.units.now = omega (arith, c.runs-test.true, c.runs.invariant.within) in
    below_run c.args.units.now c.runs.at 8 c.unit_lanes_below-low.result c.args.limit fits c.runs.invariant.below c.unit_lanes_below-low.ensures

pub returns-then-low-lt-UNIT_LANES-clause-ends : goal.returns-then-low-lt-UNIT_LANES-clause-ends
returns-then-low-lt-UNIT_LANES-clause-ends c h =
    let fits : c.runs.at + 8 ≤ length c.args.units.now = omega (arith, c.runs-test.true, c.runs.invariant.within) in
    leb-true _ _ (run_in_chunk_stops (nat_le c.args.limit) c.args.units.now c.runs.at 8 c.unit_lanes_below-low.result 0 fits c.unit_lanes_below-low.ensures c.if-low-lt-UNIT_LANES.true)

pub runs-preserved : goal.runs-preserved
runs-preserved c =
    let fits : c.runs.at + 8 ≤ length c.args.units.now = omega (arith, c.runs-test.true, c.runs.invariant.within) in
    let few = run_in_chunk_le (nat_le c.args.limit) c.args.units.now c.runs.at 8 c.unit_lanes_below-low.result 0 fits c.unit_lanes_below-low.ensures in
    record {
      within = omega (arith, few, fits);
      below = below_run c.args.units.now c.runs.at 8 c.unit_lanes_below-low.result c.args.limit fits c.runs.invariant.below c.unit_lanes_below-low.ensures;
    }

pub returns-then-units-ge-UNIT_LANES-clause-below : goal.returns-then-units-ge-UNIT_LANES-clause-below
returns-then-units-ge-UNIT_LANES-clause-below c =
    let fits : length c.args.units.now - 8 + 8 ≤ length c.args.units.now = omega (arith, c.if-units-ge-UNIT_LANES.true) in
    below_last c.args.units.now c.runs.at (length c.args.units.now - 8) 8 c.unit_lanes_below.result c.args.limit fits (omega (arith, c.runs-test.false)) c.runs.invariant.below c.unit_lanes_below.ensures

pub returns-then-units-ge-UNIT_LANES-clause-ends : goal.returns-then-units-ge-UNIT_LANES-clause-ends
returns-then-units-ge-UNIT_LANES-clause-ends c h =
    let fits : length c.args.units.now - 8 + 8 ≤ length c.args.units.now = omega (arith, c.if-units-ge-UNIT_LANES.true) in
    leb-true _ _ (run_in_chunk_stops (nat_le c.args.limit) c.args.units.now (length c.args.units.now - 8) 8 c.unit_lanes_below.result 0 fits c.unit_lanes_below.ensures (omega (arith, h, fits)))
