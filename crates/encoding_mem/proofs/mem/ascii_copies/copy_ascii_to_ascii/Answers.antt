use Rattle.std.proofs.Common.{◌+◌, ◌-◌, ◌≤◌, length, refl, arith}
use Rattle.encoding_mem.proofs.UnitCopyLemmas.{vector_copied, last_copied}
use Rattle.encoding_mem.proofs.UnitWritingLemmas.{rest_length}
use Rattle.encoding_mem.proofs.mem.ascii_copies.copy_ascii_to_ascii.Goals as goal

pub vectors-preserved : goal.vectors-preserved
vectors-preserved c =
    let e = c.vectors-test.ensures in
    let fits : c.vectors.at + 16 ≤ length c.args.src.now = omega (arith, rest_length c.args.src.now c.vectors.at, e.here refl, c.vectors.invariant.within) in
    vector_copied c.args.src.now c.args.dst.now c.vectors.at c.vectors.dst c.copy_from_slice.new.self c.vectors.at 16 _ _ c.vectors.invariant c.requires (omega arith) (omega arith)
    fits (omega arith) (omega arith) (e.ascii refl) c.copy_from_slice.ensures.after

pub returns-then-is_long_run-clause-prefix : goal.returns-then-is_long_run-clause-prefix
returns-then-is_long_run-clause-prefix c =
    let size = length c.args.src.now in
    let copy = c.copy_from_slice-then-is_long_run in
    (last_copied c.args.src.now c.args.dst.now c.vectors.at c.vectors.dst copy.new.self 16 (size - 16 + 16 - (size - 16)) (size - (size - 16)) c.vectors.invariant c.requires c.if-src-ge-BYTE_LANES.true
    (omega (arith, c.if-left-lt-BYTE_LANES.true)) (omega arith) (omega (arith, c.if-src-ge-BYTE_LANES.true)) (c.if-is_long_run.ensures.ascii refl) copy.ensures.after).0

pub returns-then-is_long_run-clause-copied : goal.returns-then-is_long_run-clause-copied
returns-then-is_long_run-clause-copied c =
    let size = length c.args.src.now in
    let copy = c.copy_from_slice-then-is_long_run in
    (last_copied c.args.src.now c.args.dst.now c.vectors.at c.vectors.dst copy.new.self 16 (size - 16 + 16 - (size - 16)) (size - (size - 16)) c.vectors.invariant c.requires c.if-src-ge-BYTE_LANES.true
    (omega (arith, c.if-left-lt-BYTE_LANES.true)) (omega arith) (omega (arith, c.if-src-ge-BYTE_LANES.true)) (c.if-is_long_run.ensures.ascii refl) copy.ensures.after).1.0

pub returns-then-is_long_run-clause-behind : goal.returns-then-is_long_run-clause-behind
returns-then-is_long_run-clause-behind c =
    let size = length c.args.src.now in
    let copy = c.copy_from_slice-then-is_long_run in
    (last_copied c.args.src.now c.args.dst.now c.vectors.at c.vectors.dst copy.new.self 16 (size - 16 + 16 - (size - 16)) (size - (size - 16)) c.vectors.invariant c.requires c.if-src-ge-BYTE_LANES.true
    (omega (arith, c.if-left-lt-BYTE_LANES.true)) (omega arith) (omega (arith, c.if-src-ge-BYTE_LANES.true)) (c.if-is_long_run.ensures.ascii refl) copy.ensures.after).1.1
