use Rattle.std.proofs.Common.{◌≡◌, ◌≤◌, ◌-◌, length, take}
use Rattle.std.specs.List.{count_by}
use Rattle.encoding_mem.specs.Characters.{begins_character}
use Rattle.encoding_mem.proofs.mem.character_counts.count_beginnings.Given as goal

abbrev pub invariant-vectors : goal.invariant-vectors
invariant-vectors l = record {
  within : l.at ≤ length l.bytes;
  counted : l.count ≡ count_by begins_character (take l.at l.bytes);
}

abbrev pub decreases-vectors : goal.decreases-vectors
decreases-vectors l = length l.bytes - l.at
