use Rattle.std.proofs.Common.{◌≡◌, ◌+◌, ◌-◌, ◌≤◌, length, drop}
use Rattle.std.specs.Char.Utf16.{utf16_lossy_chars}
use Rattle.encoding_mem.proofs.mem.character_counts.count_in_units.Given as goal

abbrev pub invariant-characters : goal.invariant-characters
invariant-characters l = (l.read ≤ length l.units) × (l.count ≤ l.read) × (l.count + length (utf16_lossy_chars (drop l.read l.units)) ≡ length (utf16_lossy_chars l.units))

abbrev pub decreases-characters : goal.decreases-characters
decreases-characters l = length l.units - l.read
