use Rattle.std.proofs.Common.{◌≡◌, false, take}
use Rattle.std.specs.List.{list_any}
use Rattle.encoding_mem.specs.Bidi.{is_bidi_unit}
use Rattle.encoding_mem.proofs.mem.bidi.any_near_bidi.Given as goal

abbrev pub invariant-loop-unit : goal.invariant-loop-unit
invariant-loop-unit l = l.any ≡ false → list_any is_bidi_unit (take l.unit-index l.units) ≡ false
