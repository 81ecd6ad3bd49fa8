use Rattle.std.proofs.Common.{◌≡◌, ◌-◌, length}
use Rattle.recode_log.specs.Call.{passed_by}
use Rattle.recode_log.specs.Counted.{CountsWrites, failures_of, history_of}
use Rattle.recode.specs.Told.{TellWhatPassed, told_at}
use Rattle.recode.specs.calls.Buffers.{AreEnough, KeepSizes}
use Rattle.recode.specs.calls.SessionView.{view_of}
use Rattle.recode.specs.Devices.{devices_at}
use Rattle.recode.specs.Order.{RunsInOrder}
use Rattle.recode_log.specs.Ports.{SameDevices, journal_of}
use Rattle.recode.specs.declared.session.Phase.TheVariants.{Open}
use Rattle.recode.specs.Step.{HasRun}
use Rattle.recode_log.specs.laws.Told.{NoneYet}
use Rattle.recode.proofs.TellLemmas.{ReadsSome}
use Rattle.recode.proofs.session.run_on.Given as goal

abbrev pub invariant-run : goal.invariant-run
invariant-run g l = record {
  ran : HasRun (devices_at l.initial.ports) (devices_at l.ports)
      l.job.limit (view_of l.initial.session).state (view_of l.session).state;
  open_ : (view_of l.session).phase ≡ Open;
  job : (view_of l.session).job ≡ l.job;
  enough : AreEnough l.buffers;
  kept : KeepSizes l.initial.buffers l.buffers;
  reader_count : failures_of l.ports.reader.now ≡ failures_of l.initial.ports.reader.now;
  writer_count : failures_of l.ports.writer.now ≡ failures_of l.initial.ports.writer.now;
  log_count : failures_of l.ports.log.now ≡ failures_of l.initial.ports.log.now;
  reads : ReadsSome (history_of l.initial.ports.reader.now) (history_of l.ports.reader.now) (length l.initial.buffers.input.now);
  writes : CountsWrites l.initial.ports.writer.now l.ports.writer.now;
  lines : CountsWrites l.initial.ports.log.now l.ports.log.now;
  yet : NoneYet (passed_by (history_of l.initial.ports.reader.now)) (passed_by (history_of l.ports.reader.now));
  paced : RunsInOrder (journal_of l.initial.ports) (journal_of l.ports) l.job;
  same : SameDevices l.initial.ports l.ports;
  told : TellWhatPassed (devices_at l.initial.ports) (devices_at l.ports)
      (told_at g.R.Read.remaining g.W.Write.contents g.L.Write.contents l.initial.ports)
      (told_at g.R.Read.remaining g.W.Write.contents g.L.Write.contents l.ports);
}

abbrev pub decreases-run : goal.decreases-run
decreases-run g l = l.job.limit - l.session.engine.counts.read
