use Rattle.std.proofs.Common.{◌≡◌, ◌+◌, ◌-◌, ◌/◌, length, drop}
use Rattle.encoding_mem.specs.calls.TextUnits.{IsInUnits}
use Rattle.encoding_mem.proofs.mem.utf8_conversions.convert_str_to_utf16.Given as goal

abbrev pub invariant-runs : goal.invariant-runs
invariant-runs l = record {
  so_far : IsInUnits l.src l.read l.dst l.written;
  size : length l.dst ≡ length l.initial.dst;
  behind : drop (l.written + (length l.src - l.read) / 3) l.dst ≡ drop (l.written + (length l.src - l.read) / 3) l.initial.dst;
}

abbrev pub decreases-runs : goal.decreases-runs
decreases-runs l = length l.src - l.read
