use Rattle.std.proofs.Common.{◌-◌, length}
use Rattle.encoding_mem.proofs.Latin1WritingLemmas.{IsLatin1Put}
use Rattle.encoding_mem.proofs.mem.latin1_conversions.convert_latin1_to_utf8_partial.Given as goal

abbrev pub invariant-parts : goal.invariant-parts
invariant-parts l = IsLatin1Put l.src l.initial.dst l.read l.dst l.written

abbrev pub decreases-parts : goal.decreases-parts
decreases-parts l = length l.src - l.read
