use Rattle.std.proofs.Common.{◌-◌, ◌≡◌, ◌≤◌, ◌++◌, length, take, drop}
use Rattle.encoding_mem.specs.calls.TextDestination.{cleared}
use Rattle.encoding_mem.proofs.mem.text_destinations.clear_prefix.Given as goal

abbrev pub invariant-bytes : goal.invariant-bytes
invariant-bytes l = record {
  within : l.offset ≤ length l.bytes;
  is : cleared l.initial.bytes ≡ take l.offset l.bytes ++ cleared (drop l.offset l.bytes);
}

abbrev pub decreases-bytes : goal.decreases-bytes
decreases-bytes l = length l.bytes - l.offset
