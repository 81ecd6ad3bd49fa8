use Rattle.std.proofs.Common.{◌≡◌, ℕ, false, ◌<◌, ◌≤◌, ◌-◌, length}
use Rattle.encoding_mem.specs.BidiBytes.{is_bidi_at}
use Rattle.encoding_mem.proofs.mem.bidi_bytes.any_bidi_at.Given as goal

abbrev pub invariant-wide : goal.invariant-wide
invariant-wide l = record {
  within : l.at ≤ length l.bytes;
  none : (k : ℕ) → k < l.at → is_bidi_at l.bytes k ≡ false;
}

abbrev pub decreases-wide : goal.decreases-wide
decreases-wide l = length l.bytes - l.at
