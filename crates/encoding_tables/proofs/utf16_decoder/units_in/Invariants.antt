use Rattle.std.proofs.Common.{◌-◌, ◌≡◌, ◌≤◌, length}
use Rattle.encoding_tables.specs.Utf16.{AreUnitsOf}
use Rattle.encoding_tables.proofs.utf16_decoder.units_in.Given as goal

abbrev pub invariant-units : goal.invariant-units
invariant-units g l = record {
  within : l.at ≤ 32;
  whole : length l.units ≡ 32;
  units : AreUnitsOf g.E.ByteOrder.big_endian l.at l.units l.bytes;
}

abbrev pub decreases-units : goal.decreases-units
decreases-units g l = 32 - l.at
