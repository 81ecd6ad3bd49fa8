use Rattle.std.proofs.Common.{length}
use Rattle.recode.specs.calls.EngineView.{HoldsBetween, standing}
use Rattle.recode.specs.calls.Lent.{KeepsLent}
use Rattle.recode.specs.calls.Turns.{CanGoOn, owed}
use Rattle.recode.specs.calls.Writers.{writers}
use Rattle.recode.specs.declared.job.Policy.{Policy}
use Rattle.recode.proofs.ShellLemmas.{Pumps}
use Rattle.recode.proofs.chunk.write_chunk.Given as goal

abbrev pub invariant-calls : goal.invariant-calls
invariant-calls g l =
    let view = g.D.StreamDecoder.view in
    let parts = g.E.RawEncoder.parts in
    let p = l.policy in
    record {
      pumps : Pumps g.W.Write.contents g.L.Write.contents p (writers l.initial.held l.initial.buffer l.initial.ports) (writers l.held l.buffer l.ports) (standing view parts p l.initial.engine l.initial.pivot) (standing view parts p l.engine l.pivot) l.last l.initial.rest l.rest 0 0;
      ready : CanGoOn (standing view parts Policy.Decimal l.engine l.pivot) l.rest l.last;
      holds : HoldsBetween l.pivot l.engine.from l.engine.to;
      lent : KeepsLent l.initial.pivot l.initial.check l.pivot l.check;
    }

abbrev pub decreases-calls : goal.decreases-calls
decreases-calls g l = length (owed (standing g.D.StreamDecoder.view g.E.RawEncoder.parts Policy.Decimal l.engine l.pivot) l.rest)
