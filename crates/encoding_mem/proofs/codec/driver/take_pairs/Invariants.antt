use Rattle.std.proofs.Common.{false, ◌≡◌, ◌≤◌, ◌*◌, length}
use Rattle.encoding_mem.proofs.DriverLemmas.{HasCome}
use Rattle.encoding_mem.proofs.codec.driver.take_pairs.Given as goal

abbrev pub invariant-pairs : goal.invariant-pairs
invariant-pairs g l = record {
  bytes : 2 * l.pairs_left ≤ length l.rest;
  room : 3 * l.pairs_left ≤ g.S.Sink.free l.sink;
  limits : g.F.DecoderRule.limits l.codec ≡ g.F.DecoderRule.limits l.initial.codec;
  modes : g.F.DecoderRule.in_mode l.codec ≡ g.F.DecoderRule.in_mode l.initial.codec;
  so_far : HasCome (g.F.DecoderRule.pieces l.initial.codec) (g.F.DecoderRule.pieces l.codec) (g.F.DecoderRule.needs l.initial.codec) (g.F.DecoderRule.needs l.codec)
      g.S.Sink.is_units false l.src l.rest (g.S.Sink.free l.initial.sink) (g.S.Sink.free l.sink) (λ t. g.S.Sink.writes l.initial.sink t l.sink);
}

abbrev pub decreases-pairs : goal.decreases-pairs
decreases-pairs g l = l.pairs_left
