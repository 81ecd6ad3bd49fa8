use Rattle.std.proofs.Common.{ℕ, ◌<◌, ◌≤◌, ◌-◌, length, get_or}
use Rattle.encoding_mem.specs.Iso2022JpAscii.{IsIso2022JpAsciiByte}
use Rattle.encoding_mem.proofs.mem.ascii_text.iso_2022_jp_ascii_valid_up_to.Given as goal

abbrev pub invariant-wide : goal.invariant-wide
invariant-wide l = record {
  within : l.at ≤ length l.bytes;
  well_formed : (k : ℕ) → k < l.at → IsIso2022JpAsciiByte (get_or l.bytes k 0);
}

abbrev pub decreases-wide : goal.decreases-wide
decreases-wide l = length l.bytes - l.at

abbrev pub invariant-bytes : goal.invariant-bytes
invariant-bytes l = record {
  within : l.at ≤ length l.bytes;
  well_formed : (k : ℕ) → k < l.at → IsIso2022JpAsciiByte (get_or l.bytes k 0);
}

abbrev pub decreases-bytes : goal.decreases-bytes
decreases-bytes l = length l.bytes - l.at
