use Rattle.std.proofs.Common.{ℕ, IsTrue, ◌<◌, ◌+◌, ◌-◌, length, get_or}
use Rattle.encoding_mem.specs.Latin1Bytes.{is_latin1_pair}
use Rattle.encoding_mem.proofs.mem.latin1_bytes.is_latin1_text.Given as goal

abbrev pub invariant-wide : goal.invariant-wide
invariant-wide l = record {
  within : l.at < length l.bytes;
  pairs : (k : ℕ) → k < l.at → IsTrue (is_latin1_pair (get_or l.bytes k 0) (get_or l.bytes (k + 1) 0));
}

abbrev pub decreases-wide : goal.decreases-wide
decreases-wide l = length l.bytes - l.at

abbrev pub invariant-bytes : goal.invariant-bytes
invariant-bytes l = record {
  within : l.at < length l.bytes;
  pairs : (k : ℕ) → k < l.at → IsTrue (is_latin1_pair (get_or l.bytes k 0) (get_or l.bytes (k + 1) 0));
}

abbrev pub decreases-bytes : goal.decreases-bytes
decreases-bytes l = length l.bytes - l.at
