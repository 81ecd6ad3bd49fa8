use Rattle.std.proofs.Common.{◌≡◌, length, take, drop}
use Rattle.encoding_mem.specs.Conversions.{low_bytes}
use Rattle.encoding_mem.proofs.mem.latin1_conversions.convert_utf16_to_latin1_lossy.Given as goal

abbrev pub invariant-loop-i : goal.invariant-loop-i
invariant-loop-i l = record {
  size : length l.dst ≡ length l.initial.dst;
  behind : drop l.i l.dst ≡ drop l.i l.initial.dst;
  copied : take l.i l.dst ≡ low_bytes (take l.i l.src);
}
