use Rattle.std.proofs.Common.{◌≡◌, ℕ, List, [], Ok, length, refl, sym, subst, ◌∙◌, ap, arith}
use Rattle.std.proofs.lemmas.Result.{err_from_is_err_and}
use Rattle.recode.specs.Devices.{Devices, devices_in}
use Rattle.recode.specs.Job.{input_text}
use Rattle.recode.specs.Told.{Told, TellWhatPassed}
use Rattle.recode.specs.Session.{Fails}
use Rattle.recode.specs.Step.{Finishes, Stops}
use Rattle.recode.specs.calls.SessionView.{view_of}
use Rattle.recode.specs.declared.job.Fault.{Fault}
use Rattle.recode.specs.declared.job.Job.{Job}
use Rattle.recode_log.specs.Counted.{inner_of}
use Rattle.test_examples.specs.declared.session_steps.Keeper.{Keeper}
use Rattle.test_examples.specs.declared.session_steps.SingleBytes.{SingleBytes}
use Rattle.test_examples.proofs.SessionStepsLemmas.{HaveGoneOn, devices_before, gave_all, gave_decided, none_called, none_told, one_more, still_enough, told_before, told_fault, told_of_steps}
use Rattle.test_examples.proofs.session_steps.convert_steps.Goals as goal

pub steps-init : goal.steps-init
steps-init c =
    let x : List ℕ = c.args.input.now in
    let v = view_of c.new-session.result in
    let begun : devices_in c.new-reader.result c.new-writer.result c.new-log.result ≡ devices_before =
    none_called c.new-reader.result c.new-writer.result c.new-log.result c.new-reader.ensures.history c.new-writer.ensures.history c.new-log.ensures.history
    c.new-reader.ensures.failures c.new-writer.ensures.failures c.new-log.ensures.failures in
    let told : told_of_steps c.new-reader.result c.new-writer.result c.new-log.result ≡ told_before x =
    none_told x c.new-reader.result c.new-writer.result c.new-log.result (ap (λ (r : SingleBytes). r.rest.now) c.new-reader.ensures.inner)
    (ap (λ (k : Keeper). k.bytes.items) c.new-writer.ensures.inner ∙ c.new.ensures.items) (ap (λ (k : Keeper). k.bytes.items) c.new-log.ensures.inner ∙ c.new-2.ensures.items) in
    record {
      gone_on = subst (λ (d : Devices). HaveGoneOn devices_before d c.args.job v v 0) (sym begun) (record {
        job = c.new-session.ensures.job;
        open_ = c.new-session.ensures.open_;
        run = c.steps_are_a_run.ensures.begins devices_before c.args.job v c.new-session.ensures;
        read = [];
        pieces = [];
        reached = c.steps_add_up.ensures.first devices_before c.args.job v c.new-session.ensures;
        enough = omega arith;
        unfailed = record { reader = refl; writer = refl; log = refl };
      });
      tells = subst (λ (d : Devices). TellWhatPassed devices_before d (told_before x) (told_of_steps c.new-reader.result c.new-writer.result c.new-log.result)) (sym begun)
          (subst (λ (u : Told). TellWhatPassed devices_before devices_before (told_before x) u) (sym told) (c.devices_tell.ensures.begins devices_before (told_before x)));
      enough = c.requires.buffers;
    }

pub steps-preserved : goal.steps-preserved
steps-preserved c =
    let s = c.steps.invariant in
    let more = c.in_ok-step.was ∙ ap Ok c.in-More.is in
    let t = devices_before in
    let t1 = devices_in c.steps.reader c.steps.writer c.steps.log in
    let t2 = devices_in c.step.new.reader c.step.new.writer c.step.new.log in
    let j = c.args.job in
    record {
      gone_on = one_more t t1 t2 j (view_of c.new-session.result) (view_of c.steps.session) (view_of c.step.new.self) c.steps.counter c.step.result more
          s.gone_on c.step.ensures.session c.step.ensures.failures (c.step.ensures.more more)
          (c.steps_are_a_run.ensures.goes_on t t1 t2 j.limit)
          (c.steps_add_up.ensures.next t t1 t2 j (view_of c.steps.session).job.limit (view_of c.steps.session).state (view_of c.step.new.self).state);
      tells = c.devices_tell.ensures.goes_on t t1 t2 _ _ _ c.args.input.now refl s.tells c.step.ensures.told.0;
      enough = still_enough _ _ s.enough c.step.ensures.buffers;
    }

pub returns-clause-part : goal.returns-clause-part
returns-clause-part c =
    let t = devices_before in
    let t' = devices_in c.steps.reader c.steps.writer c.steps.log in
    let j = c.args.job in
    rw (c.into_inner-2.ensures, c.into_inner-3.ensures) (
    gave_decided j c.args.input.now (inner_of c.steps.reader).rest.now _ _ t' c.steps.invariant.tells (view_of c.new-session.result) (view_of c.steps.session) c.args.steps c.steps.counter
    c.steps.invariant.gone_on c.steps-test.false (λ bytes. c.devices_tell.ensures.gave [] t'.reads _ _ bytes c.steps.invariant.tells.input)
    (c.decided_pieces_are_converted.ensures.decided t t' j) (c.decided_pieces_are_converted.ensures.longest t t' j) (c.decided_pieces_are_converted.ensures.soon t t' j)
    _ c.characters-2.ensures)

pub returns-in-Done-clause-whole : goal.returns-in-Done-clause-whole
returns-in-Done-clause-whole c =
    let s = c.steps.invariant.gone_on in
    let done = c.in_ok-step.was ∙ ap Ok c.in-Done.is in
    let t = devices_before in
    let t1 = devices_in c.steps.reader c.steps.writer c.steps.log in
    let t2 = devices_in c.step.new.reader c.step.new.writer c.step.new.log in
    let j = c.args.job in
    let v = view_of c.steps.session in
    let w = view_of c.step.new.self in
    let finishes : Finishes t1 t2 j.limit v.state w.state = subst (λ (k : Job). Finishes t1 t2 k.limit v.state w.state) s.job (c.step.ensures.done done) in
    let tells = c.devices_tell.ensures.goes_on t t1 t2 _ _ _ c.args.input.now refl c.steps.invariant.tells c.step.ensures.told.0 in
    let completes = (c.steps_are_a_run.ensures.completes t t1 t2 j (view_of c.new-session.result) w v.state c.in-Some.report c.requires.job c.new-session.ensures s.run finishes c.in-Some.ensures.tells).0 in
    let is = c.devices_tell.ensures.input c.args.input.now [] t2.reads _ _ refl tells.input in
    let counted = c.steps_are_a_run.ensures.characters t t1 t2 j (view_of c.new-session.result) v.state w.state completes.input c.new-session.ensures s.run finishes completes.given in
    rw (c.into_inner.ensures, c.into_inner-in-Done.ensures) (
    gave_all j c.args.input.now (inner_of c.step.new.reader).rest.now _ _ t2 tells c.in-Some.report _
    (c.known_input.ensures.completes c.args.input.now t t2 j c.in-Some.report is completes)
    (c.characters.ensures ∙ counted ∙ ap (λ y. length (input_text j y)) (is.whole completes.input completes.given)))

pub returns-in_err-step-clause-fault : goal.returns-in_err-step-clause-fault
returns-in_err-step-clause-fault c =
    let s = c.steps.invariant.gone_on in
    let f = c.in_err-step.field-0.0 in
    let t = devices_before in
    let t1 = devices_in c.steps.reader c.steps.writer c.steps.log in
    let t2 = devices_in c.step.new.reader c.step.new.writer c.step.new.log in
    let j = c.args.job in
    let v = view_of c.steps.session in
    let stops : Stops t1 t2 j.limit v.state f = subst (λ (k : Job). Stops t1 t2 k.limit v.state f) s.job c.in_err-step.ensures.fault in
    let fails : Fails t t2 j f = c.steps_are_a_run.ensures.fails t t1 t2 j (view_of c.new-session.result) v.state f c.requires.job c.new-session.ensures s.run stops in
    let tells = c.devices_tell.ensures.goes_on t t1 t2 _ _ _ c.args.input.now refl c.steps.invariant.tells c.step.ensures.told.0 in
    let is = c.devices_tell.ensures.input c.args.input.now [] t2.reads _ _ refl tells.input in
    let told = err_from_is_err_and c.from_residual.result c.from_residual.ensures.1 in
    rw (told.1, told.2) (
    told_fault j c.args.input.now t2 f fails (c.known_input.ensures.too_long c.args.input.now t t2 j is) (λ (g : Fault). c.known_input.ensures.fails c.args.input.now t t2 j g is)
    (c.stops_at_first_loss.ensures.policy j c.args.input.now) (c.stops_at_first_loss.ensures.fault j c.args.input.now))
