use Rattle.std.proofs.Common.{◌+◌, ◌*◌, ◌≤◌, length, drop, take, map}
use Rattle.encoding_mem.specs.Items.{Byte}
use Rattle.encoding_mem.specs.calls.EncoderRule.{WritesBytes}
use Rattle.recode.specs.calls.Lent.{KeepsLent}
use Rattle.recode.specs.calls.EngineCodecs.{AreCodecsOf}
use Rattle.recode.specs.calls.EngineView.{HoldsBetween, standing}
use Rattle.recode.specs.calls.Turns.{CanGoOn, TakesTurns, waits}
use Rattle.recode.specs.declared.job.Job.{Job}
use Rattle.recode.specs.declared.job.Policy.{Policy}
use Rattle.recode.proofs.engine.Engine.convert.Given as goal

abbrev pub invariant-turns : goal.invariant-turns
invariant-turns g l =
    let view = g.D.StreamDecoder.view in
    let parts = g.E.RawEncoder.parts in
    record {
      law : (p : Policy) → TakesTurns (standing view parts p l.initial.self l.initial.pivot) (standing view parts p l.self l.pivot) l.last l.src (drop l.read l.src) (map Byte (take l.written l.dst)) 0 0;
      ready : CanGoOn (standing view parts Policy.Decimal l.self l.pivot) (drop l.read l.src) l.last;
      within : l.read ≤ length l.src;
      wrote : WritesBytes l.initial.dst l.dst l.written;
      holds : HoldsBetween l.pivot l.self.from l.self.to;
      lent : KeepsLent l.initial.pivot l.initial.check l.pivot l.check;
      codecs : (j : Job) → AreCodecsOf view parts j l.initial.self → AreCodecsOf view parts j l.self;
    }

abbrev pub decreases-turns : goal.decreases-turns
decreases-turns g l = 2 * length ((g.D.StreamDecoder.view l.self.decoder).state.pieces (drop l.read l.src)) + waits l.self.answer
