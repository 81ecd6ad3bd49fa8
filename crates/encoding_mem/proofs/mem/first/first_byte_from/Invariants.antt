use Rattle.std.proofs.Common.{ℕ, ◌<◌, ◌≤◌, ◌-◌, length, get_or}
use Rattle.encoding_mem.proofs.mem.first.first_byte_from.Given as goal

abbrev pub invariant-wide : goal.invariant-wide
invariant-wide l = record {
  within : l.at ≤ length l.bytes;
  below : (k : ℕ) → k < l.at → get_or l.bytes k 0 < l.limit;
}

abbrev pub decreases-wide : goal.decreases-wide
decreases-wide l = length l.bytes - l.at

abbrev pub invariant-runs : goal.invariant-runs
invariant-runs l = record {
  within : l.at ≤ length l.bytes;
  below : (k : ℕ) → k < l.at → get_or l.bytes k 0 < l.limit;
}

abbrev pub decreases-runs : goal.decreases-runs
decreases-runs l = length l.bytes - l.at

abbrev pub invariant-bytes : goal.invariant-bytes
invariant-bytes l = record {
  within : l.at ≤ length l.bytes;
  below : (k : ℕ) → k < l.at → get_or l.bytes k 0 < l.limit;
}

abbrev pub decreases-bytes : goal.decreases-bytes
decreases-bytes l = length l.bytes - l.at
