use Rattle.encoding_tables.specs.laws.Ranges.{range_pointer-before}
use Rattle.encoding_tables.proofs.packed_ranges.PackedRanges.pointer.Goals as goal

pub returns-clause-before : goal.returns-clause-before
returns-clause-before c = rw c.pointer_by_runs.ensures (range_pointer-before c.deref.result.now c.args.c)
