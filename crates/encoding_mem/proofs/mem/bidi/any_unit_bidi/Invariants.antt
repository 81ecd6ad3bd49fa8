use Rattle.std.proofs.Common.{◌≡◌, ◌≤◌, ◌-◌, false, length, take}
use Rattle.std.specs.List.{list_any}
use Rattle.encoding_mem.specs.Bidi.{is_bidi_unit}
use Rattle.encoding_mem.proofs.mem.bidi.any_unit_bidi.Given as goal

abbrev pub invariant-wide : goal.invariant-wide
invariant-wide l = record {
  within : l.at ≤ length l.units;
  none : list_any is_bidi_unit (take l.at l.units) ≡ false;
}

abbrev pub decreases-wide : goal.decreases-wide
decreases-wide l = length l.units - l.at
