use Rattle.std.proofs.Common.{ℕ, ◌<◌, ◌≤◌, ◌-◌, length}
use Rattle.encoding_mem.specs.Surrogates.{IsLoneSurrogate}
use Rattle.encoding_mem.proofs.mem.validity.utf16_valid_up_to.Given as goal

abbrev pub invariant-units : goal.invariant-units
invariant-units l = record {
  within : l.at ≤ length l.units;
  none : (i : ℕ) → i < l.at → ¬ IsLoneSurrogate l.units i;
}

abbrev pub decreases-units : goal.decreases-units
decreases-units l = length l.units - l.at
