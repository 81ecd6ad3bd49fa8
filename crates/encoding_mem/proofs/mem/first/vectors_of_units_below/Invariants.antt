use Rattle.std.proofs.Common.{ℕ, ◌<◌, ◌≤◌, ◌-◌, length, get_or}
use Rattle.encoding_mem.proofs.mem.first.vectors_of_units_below.Given as goal

abbrev pub invariant-wide : goal.invariant-wide
invariant-wide l = record {
  within : l.at ≤ length l.units;
  below : (k : ℕ) → k < l.at → get_or l.units k 0 < l.limit;
}

abbrev pub decreases-wide : goal.decreases-wide
decreases-wide l = length l.units - l.at

abbrev pub invariant-vectors : goal.invariant-vectors
invariant-vectors l = record {
  within : l.at ≤ length l.units;
  below : (k : ℕ) → k < l.at → get_or l.units k 0 < l.limit;
}

abbrev pub decreases-vectors : goal.decreases-vectors
decreases-vectors l = length l.units - l.at
