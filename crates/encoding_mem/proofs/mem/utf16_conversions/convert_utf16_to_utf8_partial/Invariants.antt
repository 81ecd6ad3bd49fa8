use Rattle.std.proofs.Common.{◌-◌, length}
use Rattle.encoding_mem.proofs.UnitWritingLemmas.{IsWritten}
use Rattle.encoding_mem.proofs.mem.utf16_conversions.convert_utf16_to_utf8_partial.Given as goal

abbrev pub invariant-wide : goal.invariant-wide
invariant-wide l = IsWritten l.src l.initial.dst l.read l.dst l.written

abbrev pub decreases-wide : goal.decreases-wide
decreases-wide l = length l.src - l.read

abbrev pub invariant-lanes : goal.invariant-lanes
invariant-lanes l = IsWritten l.src l.fn.dst l.read l.dst l.written

abbrev pub decreases-lanes : goal.decreases-lanes
decreases-lanes l = length l.src - l.read

abbrev pub invariant-characters : goal.invariant-characters
invariant-characters l = IsWritten l.src l.fn.dst l.read l.dst l.written

abbrev pub decreases-characters : goal.decreases-characters
decreases-characters l = length l.src - l.read
