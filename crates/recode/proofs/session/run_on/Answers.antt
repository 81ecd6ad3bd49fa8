use Rattle.std.proofs.Common.{◌∙◌, Ok, refl, ap, subst, arith}
use Rattle.recode.specs.Devices.{ports_at}
use Rattle.recode.specs.Session.{IsOver, phase_after}
use Rattle.recode.specs.calls.SessionView.{view_of}
use Rattle.recode.specs.declared.job.Job.{Job}
use Rattle.recode_log.specs.laws.Counts.{counts_none, counts_then}
use Rattle.recode_log.specs.laws.Told.{none_yet}
use Rattle.recode.proofs.TellLemmas.{none_yet_on, reads_on, reads_start, run_calls, tells_none, tells_then}
use Rattle.recode.proofs.WriterLemmas.{kept_enough, kept_on, kept_start}
use Rattle.recode.proofs.LatencyLemmas.{new_settled}
use Rattle.recode.proofs.StepLemmas.{goes_on_start, goes_on_more, goes_on_finish, goes_on_stop, completes, fails, fails_decided, keeps_pace}
use Rattle.recode.proofs.OrderLemmas.{same_none, same_then}
use Rattle.recode.proofs.PaceLemmas.{runs_on, runs_start}
use Rattle.recode.proofs.session.run_on.Goals as goal

pub run-init : goal.run-init
run-init g c = record {
  ran = goes_on_start _ _ _ (omega (arith, c.new-session.ensures.read)) (new_settled _ c.args.job c.new-session.ensures);
  open_ = c.new-session.ensures.open_;
  job = c.new-session.ensures.job;
  enough = c.requires.buffers;
  kept = kept_start c.args.buffers.now;
  reader_count = refl;
  writer_count = refl;
  log_count = refl;
  reads = reads_start _ _;
  writes = counts_none _;
  lines = counts_none _;
  yet = none_yet _;
  paced = runs_start _ _;
  same = same_none _;
  told = tells_none _ _;
}

pub step_on-requires-clause-over : goal.step_on-requires-clause-over
step_on-requires-clause-over g c = λ h. subst IsOver c.run.invariant.open_ h

pub step_on-requires-clause-buffers : goal.step_on-requires-clause-buffers
step_on-requires-clause-buffers g c = c.run.invariant.enough

pub step_on-requires-clause-counts : goal.step_on-requires-clause-counts
step_on-requires-clause-counts g c =
    let i = c.run.invariant in
    omega (arith, i.reader_count, i.writer_count, i.log_count, c.requires.counts.reader, c.requires.counts.writer, c.requires.counts.log)

pub run-preserved : goal.run-preserved
run-preserved g c =
    let e = c.in-Ok-More.ensures in
    record {
      ran = goes_on_more _ _ _ _ _ _ _ c.run.invariant.ran (rw (ap (λ (j : Job). j.limit) c.run.invariant.job) at (e.more (ap Ok c.in-Ok-More.field-0-is)));
      open_ = e.session.phase ∙ ap (λ p. phase_after (Ok p)) c.in-Ok-More.field-0-is;
      job = e.session.job ∙ c.run.invariant.job;
      enough = kept_enough _ _ c.run.invariant.enough e.buffers;
      kept = kept_on _ _ _ c.run.invariant.kept e.buffers;
      reader_count = omega (arith, e.failures.reader, c.run.invariant.reader_count);
      writer_count = omega (arith, e.failures.writer, c.run.invariant.writer_count);
      log_count = omega (arith, e.failures.log, c.run.invariant.log_count);
      reads = (let on = e.more (ap Ok c.in-Ok-More.field-0-is) in reads_on _ _ _ _ _ e.calls.call on.chunk c.run.invariant.reads c.run.invariant.kept.input e.calls.is e.calls.once on.given (omega (arith, on.grows, on.counted)));
      writes = counts_then _ _ _ c.run.invariant.writes e.calls.writes;
      lines = counts_then _ _ _ c.run.invariant.lines e.calls.lines;
      yet = (let on = e.more (ap Ok c.in-Ok-More.field-0-is) in none_yet_on _ _ _ _ e.calls.call on.chunk c.run.invariant.yet e.calls.is e.calls.once on.given (omega (arith, on.grows, on.counted)));
      paced = runs_on c.args.ports.now c.run.ports c.args.job c.run.invariant.paced (keeps_pace _ _ c.args.job (view_of c.new-session.result) _ c.requires.job c.new-session.ensures c.run.invariant.ran) _ e.order.1;
      same = same_then _ _ _ c.run.invariant.same e.order.0;
      told = tells_then _ _ _ _ _ _ c.run.invariant.yet c.run.invariant.told e.told.0;
    }

pub returns-in-Ok-Done-clause-completes : goal.returns-in-Ok-Done-clause-completes
returns-in-Ok-Done-clause-completes g c =
    let e = c.in-Ok-Done.ensures in
    let all = goes_on_finish _ _ _ _ _ _ _ c.run.invariant.ran (rw (ap (λ (j : Job). j.limit) c.run.invariant.job) at (e.done (ap Ok c.in-Ok-Done.field-0-is))) in
    (completes _ _ c.args.job (view_of c.new-session.result) (view_of c.step_on.new.self) _ c.requires.job c.new-session.ensures all (c.report.ensures _)).0

pub returns-in-Ok-Done-clause-work : goal.returns-in-Ok-Done-clause-work
returns-in-Ok-Done-clause-work g c =
    let e = c.in-Ok-Done.ensures in
    let all = goes_on_finish _ _ _ _ _ _ _ c.run.invariant.ran (rw (ap (λ (j : Job). j.limit) c.run.invariant.job) at (e.done (ap Ok c.in-Ok-Done.field-0-is))) in
    (completes _ _ c.args.job (view_of c.new-session.result) (view_of c.step_on.new.self) _ c.requires.job c.new-session.ensures all (c.report.ensures _)).1

pub returns-in-Err-clause-fails : goal.returns-in-Err-clause-fails
returns-in-Err-clause-fails g c =
    fails _ _ c.args.job (view_of c.new-session.result) _ c.requires.job c.new-session.ensures
    (goes_on_stop _ _ _ _ _ _ _ c.run.invariant.ran (rw (ap (λ (j : Job). j.limit) c.run.invariant.job) at c.in-Err.ensures.fault))

pub returns-in-Err-clause-decided : goal.returns-in-Err-clause-decided
returns-in-Err-clause-decided g c =
    fails_decided _ _ c.args.job (view_of c.new-session.result) _ c.requires.job c.new-session.ensures
    (goes_on_stop _ _ _ _ _ _ _ c.run.invariant.ran (rw (ap (λ (j : Job). j.limit) c.run.invariant.job) at c.in-Err.ensures.fault))

pub returns-in-Ok-Done-clause-buffers : goal.returns-in-Ok-Done-clause-buffers
returns-in-Ok-Done-clause-buffers g c = kept_on _ _ _ c.run.invariant.kept c.in-Ok-Done.ensures.buffers

pub returns-in-Err-clause-buffers : goal.returns-in-Err-clause-buffers
returns-in-Err-clause-buffers g c = kept_on _ _ _ c.run.invariant.kept c.in-Err.ensures.buffers

pub returns-in-Ok-Done-clause-told : goal.returns-in-Ok-Done-clause-told
returns-in-Ok-Done-clause-told g c = tells_then _ _ _ _ _ _ c.run.invariant.yet c.run.invariant.told c.in-Ok-Done.ensures.told.0

pub returns-in-Err-clause-told : goal.returns-in-Err-clause-told
returns-in-Err-clause-told g c = tells_then _ _ _ _ _ _ c.run.invariant.yet c.run.invariant.told c.in-Err.ensures.told.0

pub returns-in-Ok-Done-clause-calls : goal.returns-in-Ok-Done-clause-calls
returns-in-Ok-Done-clause-calls g c = run_calls (ports_at c.args.ports.now) (ports_at c.run.ports) _ _ c.run.invariant.reads c.run.invariant.writes c.run.invariant.lines c.run.invariant.kept.input c.in-Ok-Done.ensures.calls refl tt

pub returns-in-Err-clause-calls : goal.returns-in-Err-clause-calls
returns-in-Err-clause-calls g c = run_calls (ports_at c.args.ports.now) (ports_at c.run.ports) _ _ c.run.invariant.reads c.run.invariant.writes c.run.invariant.lines c.run.invariant.kept.input c.in-Err.ensures.calls refl c.in-Err.ensures.calls.last

pub returns-in-Ok-Done-clause-order : goal.returns-in-Ok-Done-clause-order
returns-in-Ok-Done-clause-order g c = (
  same_then _ _ _ c.run.invariant.same c.in-Ok-Done.ensures.order.0,
  runs_on c.args.ports.now c.run.ports c.args.job c.run.invariant.paced (keeps_pace _ _ c.args.job (view_of c.new-session.result) _ c.requires.job c.new-session.ensures c.run.invariant.ran) _ c.in-Ok-Done.ensures.order.1,
)

pub returns-in-Err-clause-order : goal.returns-in-Err-clause-order
returns-in-Err-clause-order g c = (
  same_then _ _ _ c.run.invariant.same c.in-Err.ensures.order.0,
  runs_on c.args.ports.now c.run.ports c.args.job c.run.invariant.paced (keeps_pace _ _ c.args.job (view_of c.new-session.result) _ c.requires.job c.new-session.ensures c.run.invariant.ran) _ c.in-Err.ensures.order.1,
)
