use Rattle.std.proofs.Common.{◌-◌, length}
use Rattle.encoding_mem.proofs.UnitCopyLemmas.{IsCopiedTo}
use Rattle.encoding_mem.proofs.mem.ascii_copies.copy_blocks.Given as goal

abbrev pub invariant-wide : goal.invariant-wide
invariant-wide l = IsCopiedTo l.src l.fn.dst l.at l.dst

abbrev pub decreases-wide : goal.decreases-wide
decreases-wide l = length l.src - l.at
