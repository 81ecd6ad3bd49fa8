use Rattle.std.proofs.Common.{◌≤◌, ◌*◌, ◌-◌}
use Rattle.encoding_mem.proofs.UnitWritingLemmas.{IsWritten}
use Rattle.encoding_mem.proofs.mem.plain_units.put_each.Given as goal

abbrev pub invariant-units : goal.invariant-units
invariant-units l = record {
  within : l.read ≤ l.count;
  few : l.written ≤ 3 * l.read;
  many : l.read ≤ l.written;
  so_far : IsWritten l.units l.initial.dst l.read l.dst l.written;
}

abbrev pub decreases-units : goal.decreases-units
decreases-units l = l.count - l.read
