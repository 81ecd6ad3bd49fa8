use Rattle.std.proofs.Common.{◌≡◌, length, take, drop}
use Rattle.encoding_mem.proofs.mem.ascii_copies.copy_ascii_to_basic_latin.Given as goal

abbrev pub invariant-loop-i : goal.invariant-loop-i
invariant-loop-i l = record {
  size : length l.dst ≡ length l.initial.dst;
  behind : drop l.i l.dst ≡ drop l.i l.initial.dst;
  copied : take l.i l.dst ≡ take l.i l.src;
}
