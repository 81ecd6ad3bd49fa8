use Rattle.std.proofs.Common.{◌-◌, length}
use Rattle.encoding_mem.proofs.UnitCopyLemmas.{IsCopiedOver}
use Rattle.encoding_mem.proofs.mem.ascii_copies.copy_ascii_run.Given as goal

abbrev pub invariant-lanes : goal.invariant-lanes
invariant-lanes l = IsCopiedOver l.src l.fn.dst l.at l.dst

abbrev pub decreases-lanes : goal.decreases-lanes
decreases-lanes l = length l.src - l.at

abbrev pub invariant-bytes : goal.invariant-bytes
invariant-bytes l = IsCopiedOver l.src l.fn.dst l.at l.dst

abbrev pub decreases-bytes : goal.decreases-bytes
decreases-bytes l = length l.src - l.at
