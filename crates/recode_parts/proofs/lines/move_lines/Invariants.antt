use Rattle.std.proofs.Common.{◌≡◌, ◌≤◌, ◌-◌, length, take}
use Rattle.recode_parts.specs.Joins.{MovesLines}
use Rattle.recode_parts.proofs.lines.move_lines.Given as goal

abbrev pub invariant-loop-dst : goal.invariant-loop-dst
invariant-loop-dst l = record {
  read_within : l.read ≤ length l.bytes;
  written_within : l.written ≤ length l.dst;
  none_yet : l.read ≡ 0 → l.written ≡ 0;
  moves : MovesLines l.before.bytes l.before.characters (take l.read l.bytes) (take l.written l.dst);
}

abbrev pub decreases-loop-dst : goal.decreases-loop-dst
decreases-loop-dst l = length l.bytes - l.read
