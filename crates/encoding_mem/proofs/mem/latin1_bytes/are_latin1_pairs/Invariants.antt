use Rattle.std.proofs.Common.{ℕ, IsTrue, ◌<◌, ◌+◌, get_or}
use Rattle.encoding_mem.specs.Latin1Bytes.{is_latin1_pair}
use Rattle.encoding_mem.proofs.mem.latin1_bytes.are_latin1_pairs.Given as goal

abbrev pub invariant-loop-i : goal.invariant-loop-i
invariant-loop-i l = IsTrue l.all → (k : ℕ) → k < l.i → IsTrue (is_latin1_pair (get_or l.bytes k 0) (get_or l.bytes (k + 1) 0))
