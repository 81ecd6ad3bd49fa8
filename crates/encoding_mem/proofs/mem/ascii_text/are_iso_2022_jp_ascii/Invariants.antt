use Rattle.std.proofs.Common.{ℕ, IsTrue, ◌<◌, get_or}
use Rattle.encoding_mem.specs.Iso2022JpAscii.{IsIso2022JpAsciiByte}
use Rattle.encoding_mem.proofs.mem.ascii_text.are_iso_2022_jp_ascii.Given as goal

abbrev pub invariant-loop-byte : goal.invariant-loop-byte
invariant-loop-byte l = IsTrue l.all → (k : ℕ) → k < l.byte-index → IsIso2022JpAsciiByte (get_or l.bytes k 0)
