use Rattle.std.proofs.Common.{◌≡◌, ◌≤◌, ◌+◌, ◌-◌, ◌*◌, length, drop}
use Rattle.encoding_mem.specs.calls.TextUnits.{IsInUnits}
use Rattle.encoding_mem.proofs.mem.text_units.put_run.Given as goal

abbrev pub invariant-characters : goal.invariant-characters
invariant-characters l = record {
  later : l.at ≤ l.read;
  after : l.to ≤ l.written;
  dense : l.read + 3 * l.to ≤ l.at + 3 * l.written;
  so_far : IsInUnits l.text l.read l.dst l.written;
  size : length l.dst ≡ length l.initial.dst;
  behind : drop l.written l.dst ≡ drop l.written l.initial.dst;
}

abbrev pub decreases-characters : goal.decreases-characters
decreases-characters l = length l.text - l.read
