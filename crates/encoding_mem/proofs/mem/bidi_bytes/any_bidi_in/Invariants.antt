use Rattle.std.proofs.Common.{◌≡◌, ℕ, IsTrue, false, ◌<◌}
use Rattle.encoding_mem.specs.BidiBytes.{is_bidi_at}
use Rattle.encoding_mem.proofs.mem.bidi_bytes.any_bidi_in.Given as goal

abbrev pub invariant-loop-i : goal.invariant-loop-i
invariant-loop-i l = record {
  none : l.any ≡ false → (k : ℕ) → k < l.i → is_bidi_at l.bytes k ≡ false;
  some : IsTrue l.any → (k : ℕ) × IsTrue (is_bidi_at l.bytes k);
}
