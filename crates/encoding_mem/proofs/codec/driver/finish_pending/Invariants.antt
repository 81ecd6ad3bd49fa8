use Rattle.std.proofs.Common.{ℕ, IsTrue, ◌≡◌, ◌<◌, ◌≤◌, ◌+◌, ◌-◌, ◌*◌, ◌++◌, length}
use Rattle.encoding_mem.specs.Piece.{AreWellFormed}
use Rattle.encoding_mem.specs.calls.Decoding.{Takes}
use Rattle.encoding_mem.specs.calls.Driver.{IsNear}
use Rattle.encoding_mem.specs.calls.DecodedLength.{is_units}
use Rattle.encoding_mem.specs.declared.codec.room.OutputUnit.{OutputUnit}
use Rattle.encoding_mem.proofs.codec.driver.finish_pending.Given as goal

abbrev pub invariant-pieces : goal.invariant-pieces
invariant-pieces g l = record {
  short : length l.pending < 7;
  limits : g.F.DecoderRule.limits l.codec ≡ g.F.DecoderRule.limits l.initial.codec;
  modes : g.F.DecoderRule.in_mode l.codec ≡ g.F.DecoderRule.in_mode l.initial.codec;
  enough : (k : OutputUnit) (m : ℕ) → is_units k ≡ g.S.Sink.is_units → (IsTrue l.last → m ≡ 0) → g.F.DecoderRule.needs l.initial.codec k (length l.initial.pending + (length l.src + m)) ≤ g.S.Sink.free l.initial.sink → g.F.DecoderRule.needs l.codec k (length l.pending + ((length l.src - l.read) + m)) ≤ g.S.Sink.free l.sink;
  near : IsNear (g.F.DecoderRule.pieces l.codec) l.pending;
  takes : Takes AreWellFormed (λ x. g.F.DecoderRule.pieces l.initial.codec (l.initial.pending ++ x)) (λ x. g.F.DecoderRule.pieces l.codec (l.pending ++ x)) l.src l.last (length l.initial.pending) (length l.pending) l.read (λ t. g.S.Sink.writes l.initial.sink t l.sink);
}

abbrev pub decreases-pieces : goal.decreases-pieces
decreases-pieces g l = 2 * (length l.src - l.read) + length l.pending
