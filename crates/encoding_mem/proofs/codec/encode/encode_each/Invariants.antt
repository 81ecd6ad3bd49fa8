use Rattle.std.proofs.Common.{◌≡◌, ◌≤◌, ◌*◌, ◌-◌, length, take, drop}
use Rattle.encoding_mem.proofs.EncoderCallLemmas.{Steps}
use Rattle.encoding_mem.specs.calls.EncoderRule.{left}
use Rattle.encoding_mem.specs.calls.EncodedLength.{bound_for}
use Rattle.encoding_mem.proofs.codec.encode.encode_each.Given as goal

abbrev pub invariant-loop-c : goal.invariant-loop-c
invariant-loop-c g l = record {
  room : l.written ≤ length l.dst;
  behind : drop l.written l.dst ≡ drop l.written l.initial.dst;
  source : g.S.Source.all l.source ≡ g.S.Source.all l.initial.source;
  size : length l.dst ≡ length l.initial.dst;
  after : g.S.Source.offset l.initial.source ≤ g.S.Source.offset l.source;
  spent : l.written ≤ (bound_for (g.T.EncoderRule.parts l.target).limits g.S.Source.is_units).factor * (g.S.Source.offset l.source - g.S.Source.offset l.initial.source);
  steps : Steps (g.T.EncoderRule.parts l.target).coding l.initial.set (left g.S.Source.text (g.S.Source.all l.initial.source) (g.S.Source.offset l.initial.source))
      (take l.written l.dst) l.set (left g.S.Source.text (g.S.Source.all l.initial.source) (g.S.Source.offset l.source));
}

abbrev pub decreases-loop-c : goal.decreases-loop-c
decreases-loop-c g l = length (left g.S.Source.text (g.S.Source.all l.source) (g.S.Source.offset l.source))
