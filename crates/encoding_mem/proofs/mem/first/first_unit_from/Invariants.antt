use Rattle.std.proofs.Common.{ℕ, ◌<◌, ◌≤◌, ◌-◌, length, get_or}
use Rattle.encoding_mem.proofs.mem.first.first_unit_from.Given as goal

abbrev pub invariant-wide : goal.invariant-wide
invariant-wide l = record {
  within : l.at ≤ length l.units;
  below : (k : ℕ) → k < l.at → get_or l.units k 0 < l.limit;
}

abbrev pub decreases-wide : goal.decreases-wide
decreases-wide l = length l.units - l.at

abbrev pub invariant-runs : goal.invariant-runs
invariant-runs l = record {
  within : l.at ≤ length l.units;
  below : (k : ℕ) → k < l.at → get_or l.units k 0 < l.limit;
}

abbrev pub decreases-runs : goal.decreases-runs
decreases-runs l = length l.units - l.at

abbrev pub invariant-units : goal.invariant-units
invariant-units l = record {
  within : l.at ≤ length l.units;
  below : (k : ℕ) → k < l.at → get_or l.units k 0 < l.limit;
}

abbrev pub decreases-units : goal.decreases-units
decreases-units l = length l.units - l.at
