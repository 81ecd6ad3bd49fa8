use Rattle.std.proofs.Common.{◌≡◌, ◌-◌, length, take}
use Rattle.std.specs.Str.{IsCharBoundary}
use Rattle.encoding_mem.specs.Conversions.{text_in_utf16}
use Rattle.encoding_mem.specs.calls.Writing.{Adds}
use Rattle.encoding_mem.proofs.mem.utf8_conversions.put_prefix.Given as goal

abbrev pub invariant-parts : goal.invariant-parts
invariant-parts l = record {
  boundary : IsCharBoundary l.text l.read;
  same : l.sink.units.ghost_name ≡ l.initial.sink.units.ghost_name;
  adds : Adds l.initial.sink.units.now l.initial.sink.written (text_in_utf16 (take l.read l.text)) l.sink.units.now l.sink.written;
}

abbrev pub decreases-parts : goal.decreases-parts
decreases-parts l = length l.text - l.read
