use Rattle.std.proofs.Common.{◌-◌, length}
use Rattle.encoding_mem.proofs.NarrowLemmas.{IsNarrowed}
use Rattle.encoding_mem.proofs.mem.latin1_conversions.narrow_text.Given as goal

abbrev pub invariant-runs : goal.invariant-runs
invariant-runs l = IsNarrowed l.bytes l.initial.dst l.read l.dst l.written

abbrev pub decreases-runs : goal.decreases-runs
decreases-runs l = length l.bytes - l.read
