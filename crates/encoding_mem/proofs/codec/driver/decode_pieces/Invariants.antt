use Rattle.std.proofs.Common.{◌≡◌, [], length}
use Rattle.encoding_mem.proofs.DriverLemmas.{HasCome}
use Rattle.encoding_mem.proofs.codec.driver.decode_pieces.Given as goal

abbrev pub invariant-pieces : goal.invariant-pieces
invariant-pieces g l = record {
  none : l.pending ≡ [];
  limits : g.F.DecoderRule.limits l.codec ≡ g.F.DecoderRule.limits l.initial.codec;
  modes : g.F.DecoderRule.in_mode l.codec ≡ g.F.DecoderRule.in_mode l.initial.codec;
  so_far : HasCome (g.F.DecoderRule.pieces l.initial.codec) (g.F.DecoderRule.pieces l.codec) (g.F.DecoderRule.needs l.initial.codec) (g.F.DecoderRule.needs l.codec)
      g.S.Sink.is_units l.last l.src l.rest (g.S.Sink.free l.initial.sink) (g.S.Sink.free l.sink) (λ t. g.S.Sink.writes l.initial.sink t l.sink);
}

abbrev pub decreases-pieces : goal.decreases-pieces
decreases-pieces g l = length l.rest
