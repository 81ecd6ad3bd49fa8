use Rattle.std.proofs.Common.{◌-◌, length}
use Rattle.encoding_mem.proofs.Latin1WritingLemmas.{IsLatin1Written}
use Rattle.encoding_mem.proofs.mem.latin1_conversions.convert_latin1_to_utf8.Given as goal

abbrev pub invariant-runs : goal.invariant-runs
invariant-runs l = IsLatin1Written l.src l.initial.dst l.read l.dst l.written

abbrev pub decreases-runs : goal.decreases-runs
decreases-runs l = length l.src - l.read
