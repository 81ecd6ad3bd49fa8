use Rattle.std.proofs.Common.{◌≡◌, ◌<◌, ◌≤◌, ◌-◌, ◌*◌, ℕ, [], length, get_or}
use Rattle.encoding_mem.proofs.PlainUnitsLemmas.{IsQuad, IsPutOver}
use Rattle.encoding_mem.proofs.mem.plain_units.put_plain_block.Given as goal

abbrev pub invariant-quads : goal.invariant-quads
invariant-quads l = record {
  within : l.at ≤ 32;
  whole : length l.quads ≡ 32;
  each : (k : ℕ) → k < l.at → IsQuad (get_or l.units k 0) (get_or l.quads k []);
}

abbrev pub decreases-quads : goal.decreases-quads
decreases-quads l = 32 - l.at

abbrev pub invariant-units : goal.invariant-units
invariant-units l = record {
  within : l.read ≤ 29;
  few : l.written ≤ 3 * l.read;
  so_far : IsPutOver l.units l.initial.dst l.read l.dst l.written;
}

abbrev pub decreases-units : goal.decreases-units
decreases-units l = 29 - l.read
