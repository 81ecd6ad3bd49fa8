use Rattle.std.proofs.Common.{◌-◌, length}
use Rattle.encoding_mem.proofs.UnitCopyLemmas.{IsCopiedTo}
use Rattle.encoding_mem.proofs.mem.ascii_copies.copy_ascii_to_ascii.Given as goal

abbrev pub invariant-vectors : goal.invariant-vectors
invariant-vectors l = IsCopiedTo l.src l.fn.dst l.at l.dst

abbrev pub decreases-vectors : goal.decreases-vectors
decreases-vectors l = length l.src - l.at

abbrev pub invariant-rest : goal.invariant-rest
invariant-rest l = IsCopiedTo l.src l.fn.dst l.at l.dst

abbrev pub decreases-rest : goal.decreases-rest
decreases-rest l = length l.src - l.at
