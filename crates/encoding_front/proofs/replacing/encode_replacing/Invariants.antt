use Rattle.std.proofs.Common.{◌≡◌, ◌+◌, ◌≤◌, false, length, take, drop}
use Rattle.encoding_mem.specs.calls.EncoderRule.{left}
use Rattle.encoding_front.specs.calls.Encoder.{EncoderState, coding_in, kept_back}
use Rattle.encoding_front.proofs.ReferenceLemmas.{Going}
use Rattle.encoding_front.proofs.replacing.encode_replacing.Given as goal

abbrev pub invariant-turns : goal.invariant-turns
invariant-turns g l = record {
  within : l.written ≤ l.end;
  part : l.end + kept_back l.initial.encoder.encoding ≡ length l.dst;
  size : length l.dst ≡ length l.initial.dst;
  behind : drop l.written l.dst ≡ drop l.written l.initial.dst;
  source : g.S.Source.all l.source ≡ g.S.Source.all l.initial.source;
  same : ◌≡◌ {A = EncoderState} l.encoder (record l.initial.encoder { set = l.encoder.set });
  going : Going (coding_in l.initial.encoder) l.last l.initial.encoder.set (left g.S.Source.text (g.S.Source.all l.initial.source) (g.S.Source.offset l.initial.source))
      (take l.written l.dst) l.encoder.set (left g.S.Source.text (g.S.Source.all l.source) (g.S.Source.offset l.source)) l.has_lost l.end;
  fresh : l.has_lost ≡ false
      → (g.S.Source.offset l.source ≡ g.S.Source.offset l.initial.source) × (l.written ≡ 0) × (◌≡◌ {A = EncoderState} l.encoder l.initial.encoder);
}

abbrev pub decreases-turns : goal.decreases-turns
decreases-turns g l = length (left g.S.Source.text (g.S.Source.all l.source) (g.S.Source.offset l.source))
