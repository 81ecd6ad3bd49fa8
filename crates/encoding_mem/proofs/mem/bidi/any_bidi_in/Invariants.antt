use Rattle.std.proofs.Common.{◌≡◌, take}
use Rattle.std.specs.List.{list_any}
use Rattle.encoding_mem.specs.Bidi.{is_bidi_unit}
use Rattle.encoding_mem.proofs.mem.bidi.any_bidi_in.Given as goal

abbrev pub invariant-loop-unit : goal.invariant-loop-unit
invariant-loop-unit l = l.any ≡ list_any is_bidi_unit (take l.unit-index l.units)
