use Rattle.std.proofs.Common.{◌-◌, length}
use Rattle.encoding_mem.proofs.UnitCopyLemmas.{IsCopiedTo}
use Rattle.encoding_mem.proofs.mem.ascii_copies.copy_basic_latin_to_ascii.Given as goal

abbrev pub invariant-wide : goal.invariant-wide
invariant-wide l = IsCopiedTo l.src l.initial.dst l.at l.dst

abbrev pub decreases-wide : goal.decreases-wide
decreases-wide l = length l.src - l.at

abbrev pub invariant-units : goal.invariant-units
invariant-units l = IsCopiedTo l.src l.fn.dst l.at l.dst

abbrev pub decreases-units : goal.decreases-units
decreases-units l = length l.src - l.at
