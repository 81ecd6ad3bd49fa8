use Rattle.std.proofs.Common.{◌≡◌, ◌-◌, ◌≤◌, take, vec_capacity, vec_len}
use Rattle.encoding_front.proofs.encoder.fill_spare.Given as goal

abbrev pub invariant-loop-dst : goal.invariant-loop-dst
invariant-loop-dst l = record {
  items : take l.len l.dst.items ≡ l.initial.dst.items;
  capacity : vec_capacity l.dst ≡ vec_capacity l.initial.dst;
  behind : l.len ≤ vec_len l.dst;
  within : vec_len l.dst ≤ vec_capacity l.dst;
}

abbrev pub decreases-loop-dst : goal.decreases-loop-dst
decreases-loop-dst l = vec_capacity l.dst - vec_len l.dst
