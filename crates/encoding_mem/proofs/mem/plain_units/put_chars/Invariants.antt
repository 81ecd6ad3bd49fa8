use Rattle.std.proofs.Common.{◌-◌, ◌≤◌}
use Rattle.encoding_mem.proofs.UnitWritingLemmas.{IsWritten}
use Rattle.encoding_mem.proofs.mem.plain_units.put_chars.Given as goal

abbrev pub invariant-characters : goal.invariant-characters
invariant-characters l = record {
  many : l.read ≤ l.written;
  so_far : IsWritten l.units l.initial.dst l.read l.dst l.written;
}

abbrev pub decreases-characters : goal.decreases-characters
decreases-characters l = l.end - l.read
