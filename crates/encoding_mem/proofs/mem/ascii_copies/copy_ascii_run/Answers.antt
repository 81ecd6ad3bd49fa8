use Rattle.std.proofs.Common.{length, arith}
use Rattle.encoding_mem.proofs.UnitCopyLemmas.{copied_over, further}
use Rattle.encoding_mem.proofs.mem.ascii_copies.copy_ascii_run.Goals as goal

pub lanes-init : goal.lanes-init
lanes-init c =
    let e = c.copy_blocks-at.ensures in
    let blocks = c.copy_blocks-at.new.dst in
    record {
      within = e.within;
      size = c.copy_blocks-at.auto.dst;
      low = e.low;
      copied = e.copied;
      behind = further blocks c.args.dst.now c.copy_blocks-at.result (length c.args.src.now) e.within e.behind;
    }

pub returns-then-run-lt-BYTE_LANES-clause-low : goal.returns-then-run-lt-BYTE_LANES-clause-low
returns-then-run-lt-BYTE_LANES-clause-low c =
    let e = c.copy_lanes-run.ensures in
    let done = copied_over c.args.src.now c.args.dst.now c.lanes.at c.lanes.dst c.copy_lanes-run.new.dst 16 c.copy_lanes-run.result c.lanes.invariant c.requires (omega (arith, c.lanes-test.true, c.lanes.invariant.within)) e.within c.copy_lanes-run.auto.dst e.low e.copied e.behind in
    done.low

pub returns-then-run-lt-BYTE_LANES-clause-copied : goal.returns-then-run-lt-BYTE_LANES-clause-copied
returns-then-run-lt-BYTE_LANES-clause-copied c =
    let e = c.copy_lanes-run.ensures in
    let done = copied_over c.args.src.now c.args.dst.now c.lanes.at c.lanes.dst c.copy_lanes-run.new.dst 16 c.copy_lanes-run.result c.lanes.invariant c.requires (omega (arith, c.lanes-test.true, c.lanes.invariant.within)) e.within c.copy_lanes-run.auto.dst e.low e.copied e.behind in
    done.copied

pub returns-then-run-lt-BYTE_LANES-clause-behind : goal.returns-then-run-lt-BYTE_LANES-clause-behind
returns-then-run-lt-BYTE_LANES-clause-behind c =
    let e = c.copy_lanes-run.ensures in
    let done = copied_over c.args.src.now c.args.dst.now c.lanes.at c.lanes.dst c.copy_lanes-run.new.dst 16 c.copy_lanes-run.result c.lanes.invariant c.requires (omega (arith, c.lanes-test.true, c.lanes.invariant.within)) e.within c.copy_lanes-run.auto.dst e.low e.copied e.behind in
    done.behind

pub lanes-preserved : goal.lanes-preserved
lanes-preserved c =
    let e = c.copy_lanes-run.ensures in
    copied_over c.args.src.now c.args.dst.now c.lanes.at c.lanes.dst c.copy_lanes-run.new.dst 16 c.copy_lanes-run.result c.lanes.invariant c.requires (omega (arith, c.lanes-test.true, c.lanes.invariant.within)) e.within c.copy_lanes-run.auto.dst e.low e.copied e.behind
