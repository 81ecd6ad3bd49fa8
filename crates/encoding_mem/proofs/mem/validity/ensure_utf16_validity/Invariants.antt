use Rattle.std.proofs.Common.{◌≡◌, ◌-◌, length}
use Rattle.encoding_mem.proofs.Utf16Lemmas.{MendedBelow}
use Rattle.encoding_mem.proofs.mem.validity.ensure_utf16_validity.Given as goal

abbrev pub invariant-units : goal.invariant-units
invariant-units l = record {
  same_length : length l.units ≡ length l.initial.units;
  mended : MendedBelow l.initial.units l.units l.at;
}

abbrev pub decreases-units : goal.decreases-units
decreases-units l = length l.initial.units - l.at
