use Rattle.std.proofs.Common.{◌-◌, ◌≤◌, ◌+◌, length, sym, arith}
use Rattle.std.specs.Prelude.{nat_le}
use Rattle.std.proofs.lemmas.Bool.{leb-true}
use Rattle.std.proofs.lemmas.Simd.{run_in_chunk_le, run_in_chunk_stops}
use Rattle.encoding_mem.proofs.PrefixLemmas.{below_run, below_last}
use Rattle.encoding_mem.proofs.mem.first.first_byte_from.Goals as goal

pub wide-preserved : goal.wide-preserved
wide-preserved c =
    let fits : c.wide.at + 64 ≤ length c.args.bytes.now = omega (arith, c.wide-test.true, c.wide.invariant.within) in
    record {
      within = omega (arith, fits);
      below = below_run c.args.bytes.now c.wide.at 64 64 c.args.limit fits c.wide.invariant.below (sym (c.all_bytes_below.ensures c.if-all_bytes_below.true));
    }

pub returns-then-run-lt-BYTE_LANES-clause-below : goal.returns-then-run-lt-BYTE_LANES-clause-below
returns-then-run-lt-BYTE_LANES-clause-below c =
    let fits : c.runs.at + 16 ≤ length c.args.bytes.now = omega (arith, c.runs-test.true, c.runs.invariant.within) in
    below_run c.args.bytes.now c.runs.at 16 c.lanes_below-run.result c.args.limit fits c.runs.invariant.below c.lanes_below-run.ensures

pub returns-then-run-lt-BYTE_LANES-clause-ends : goal.returns-then-run-lt-BYTE_LANES-clause-ends
returns-then-run-lt-BYTE_LANES-clause-ends c h =
    let fits : c.runs.at + 16 ≤ length c.args.bytes.now = omega (arith, c.runs-test.true, c.runs.invariant.within) in
    leb-true _ _ (run_in_chunk_stops (nat_le c.args.limit) c.args.bytes.now c.runs.at 16 c.lanes_below-run.result 0 fits c.lanes_below-run.ensures c.if-run-lt-BYTE_LANES.true)

pub runs-preserved : goal.runs-preserved
runs-preserved c =
    let fits : c.runs.at + 16 ≤ length c.args.bytes.now = omega (arith, c.runs-test.true, c.runs.invariant.within) in
    let few = run_in_chunk_le (nat_le c.args.limit) c.args.bytes.now c.runs.at 16 c.lanes_below-run.result 0 fits c.lanes_below-run.ensures in
    record {
      within = omega (arith, few, fits);
      below = below_run c.args.bytes.now c.runs.at 16 c.lanes_below-run.result c.args.limit fits c.runs.invariant.below c.lanes_below-run.ensures;
    }

pub returns-then-bytes-ge-BYTE_LANES-clause-below : goal.returns-then-bytes-ge-BYTE_LANES-clause-below
returns-then-bytes-ge-BYTE_LANES-clause-below c =
    let fits : length c.args.bytes.now - 16 + 16 ≤ length c.args.bytes.now = omega (arith, c.if-bytes-ge-BYTE_LANES.true) in
    below_last c.args.bytes.now c.runs.at (length c.args.bytes.now - 16) 16 c.lanes_below.result c.args.limit fits (omega (arith, c.runs-test.false)) c.runs.invariant.below c.lanes_below.ensures

pub returns-then-bytes-ge-BYTE_LANES-clause-ends : goal.returns-then-bytes-ge-BYTE_LANES-clause-ends
returns-then-bytes-ge-BYTE_LANES-clause-ends c h =
    let fits : length c.args.bytes.now - 16 + 16 ≤ length c.args.bytes.now = omega (arith, c.if-bytes-ge-BYTE_LANES.true) in
    leb-true _ _ (run_in_chunk_stops (nat_le c.args.limit) c.args.bytes.now (length c.args.bytes.now - 16) 16 c.lanes_below.result 0 fits c.lanes_below.ensures (omega (arith, h, fits)))
