use Rattle.recode.specs.Devices.{devices_in}
use Rattle.recode.specs.Told.{TellWhatPassed}
use Rattle.recode.specs.calls.Buffers.{AreEnough}
use Rattle.recode.specs.calls.SessionView.{view_of}
use Rattle.test_examples.proofs.SessionStepsLemmas.{HaveGoneOn, devices_before, told_before, told_of_steps}
use Rattle.test_examples.proofs.session_steps.convert_steps.Given as goal

abbrev pub invariant-steps : goal.invariant-steps
invariant-steps l = record {
  gone_on : HaveGoneOn devices_before (devices_in l.reader l.writer l.log) l.job (view_of l.initial.session) (view_of l.session) l.counter;
  tells : TellWhatPassed devices_before (devices_in l.reader l.writer l.log) (told_before l.input) (told_of_steps l.reader l.writer l.log);
  enough : AreEnough l.buffers;
}
