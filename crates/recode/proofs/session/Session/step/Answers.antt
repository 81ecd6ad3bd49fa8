use Rattle.std.proofs.Common.{◌≡◌, ◌∙◌, IfErr, Ok, length, sym}
use Rattle.std.specs.Io.KnownBytes.{IsAtEnd}
use Rattle.recode_log.specs.Counted.{inner_of}
use Rattle.recode.specs.Devices.{CountsFault, devices_in, ports}
use Rattle.recode.specs.Step.{Finishes, StepCalls, Stops, StepsOn}
use Rattle.recode.specs.Told.{TellWhatPassed, told_in}
use Rattle.recode.specs.calls.SessionView.{view_of}
use Rattle.recode.specs.declared.job.Progress.{Progress}
use Rattle.recode.proofs.AloneLemmas.{finishes_alone, given_back, if_err_map, step_calls_alone, steps_alone, stops_alone}
use Rattle.recode.proofs.session.Session.step.Goals as goal

pub returns-clause-more : goal.returns-clause-more
returns-clause-more g c =
    let e = c.new-ports.ensures in
    let k = c.step_on.ensures in
    let same_reader = sym (k.order.0.reader ∙ e.same_reader) in
    let same_writer = sym (k.order.0.writer ∙ e.same_writer) in
    let same_log = sym (k.order.0.log ∙ e.same_log) in
    given_back (λ r w l r' w' l'. c.step_on.result ≡ Ok Progress.More → StepsOn (devices_in r w l) (devices_in r' w' l') (view_of c.args.self.now).job.limit (view_of c.args.self.now).state (view_of c.step_on.new.self).state) e.reader e.writer e.log (c.reader-1.given.1 same_reader) (c.writer-1.given.1 same_writer) (c.log-1.given.1 same_log)
    (λ is. steps_alone _ _ _ _ _ (k.more is))

pub returns-clause-done : goal.returns-clause-done
returns-clause-done g c =
    let e = c.new-ports.ensures in
    let k = c.step_on.ensures in
    let same_reader = sym (k.order.0.reader ∙ e.same_reader) in
    let same_writer = sym (k.order.0.writer ∙ e.same_writer) in
    let same_log = sym (k.order.0.log ∙ e.same_log) in
    given_back (λ r w l r' w' l'. c.step_on.result ≡ Ok Progress.Done → Finishes (devices_in r w l) (devices_in r' w' l') (view_of c.args.self.now).job.limit (view_of c.args.self.now).state (view_of c.step_on.new.self).state) e.reader e.writer e.log (c.reader-1.given.1 same_reader) (c.writer-1.given.1 same_writer) (c.log-1.given.1 same_log)
    (λ is. finishes_alone _ _ _ _ _ (k.done is))

pub returns-clause-told : goal.returns-clause-told
returns-clause-told g c =
    let e = c.new-ports.ensures in
    let k = c.step_on.ensures in
    let same_reader = sym (k.order.0.reader ∙ e.same_reader) in
    let same_writer = sym (k.order.0.writer ∙ e.same_writer) in
    let same_log = sym (k.order.0.log ∙ e.same_log) in
    given_back (λ r w l r' w' l'. TellWhatPassed (devices_in r w l) (devices_in r' w' l') (told_in g.R.Read.remaining g.W.Write.contents g.L.Write.contents r w l) (told_in g.R.Read.remaining g.W.Write.contents g.L.Write.contents r' w' l') × (c.step_on.result ≡ Ok Progress.Done → IsAtEnd (g.R.Read.remaining (inner_of r)))) e.reader e.writer e.log (c.reader-1.given.1 same_reader) (c.writer-1.given.1 same_writer) (c.log-1.given.1 same_log)
    ((record { input = k.told.0.input; output = k.told.0.output; log = k.told.0.log }, k.told.1))

pub returns-clause-fault : goal.returns-clause-fault
returns-clause-fault g c =
    let e = c.new-ports.ensures in
    let k = c.step_on.ensures in
    let same_reader = sym (k.order.0.reader ∙ e.same_reader) in
    let same_writer = sym (k.order.0.writer ∙ e.same_writer) in
    let same_log = sym (k.order.0.log ∙ e.same_log) in
    given_back (λ r w l r' w' l'. IfErr c.step_on.result (Stops (devices_in r w l) (devices_in r' w' l') (view_of c.args.self.now).job.limit (view_of c.args.self.now).state)) e.reader e.writer e.log (c.reader-1.given.1 same_reader) (c.writer-1.given.1 same_writer) (c.log-1.given.1 same_log)
    (if_err_map c.step_on.result (λ f h. stops_alone _ _ _ _ f h) k.fault)

pub returns-clause-failures : goal.returns-clause-failures
returns-clause-failures g c =
    let e = c.new-ports.ensures in
    let k = c.step_on.ensures in
    let same_reader = sym (k.order.0.reader ∙ e.same_reader) in
    let same_writer = sym (k.order.0.writer ∙ e.same_writer) in
    let same_log = sym (k.order.0.log ∙ e.same_log) in
    given_back (λ r w l r' w' l'. CountsFault (devices_in r w l) (devices_in r' w' l') c.step_on.result) e.reader e.writer e.log (c.reader-1.given.1 same_reader) (c.writer-1.given.1 same_writer) (c.log-1.given.1 same_log)
    (record { reader = k.failures.reader; writer = k.failures.writer; log = k.failures.log })

pub returns-clause-calls : goal.returns-clause-calls
returns-clause-calls g c =
    let e = c.new-ports.ensures in
    let k = c.step_on.ensures in
    let same_reader = sym (k.order.0.reader ∙ e.same_reader) in
    let same_writer = sym (k.order.0.writer ∙ e.same_writer) in
    let same_log = sym (k.order.0.log ∙ e.same_log) in
    given_back (λ r w l r' w' l'. StepCalls (ports r w l) (ports r' w' l') (length c.args.buffers.now.input.now) c.step_on.result) e.reader e.writer e.log (c.reader-1.given.1 same_reader) (c.writer-1.given.1 same_writer) (c.log-1.given.1 same_log)
    (step_calls_alone k.calls)
