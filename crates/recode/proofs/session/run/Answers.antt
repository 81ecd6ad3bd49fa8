use Rattle.std.proofs.Common.{◌∙◌, IfErr, IfOk, length, sym}
use Rattle.recode.specs.Devices.{CountsFault, devices_in, ports}
use Rattle.recode.specs.RunsTold.{FailsDecided}
use Rattle.recode.specs.Session.{Completes, Fails}
use Rattle.recode.specs.Step.{RunCalls}
use Rattle.recode.specs.Told.{TellWhatPassed, told_in}
use Rattle.recode.proofs.AloneLemmas.{completes_alone, decided_alone, fails_alone, given_back, if_err_map, if_ok_map, run_calls_alone}
use Rattle.recode.proofs.session.run.Goals as goal

pub returns-clause-completes : goal.returns-clause-completes
returns-clause-completes g c =
    let e = c.new-ports.ensures in
    let k = c.run_on.ensures in
    let same_reader = sym (k.order.0.reader ∙ e.same_reader) in
    let same_writer = sym (k.order.0.writer ∙ e.same_writer) in
    let same_log = sym (k.order.0.log ∙ e.same_log) in
    given_back (λ r w l r' w' l'. IfOk c.run_on.result (Completes (devices_in r w l) (devices_in r' w' l') c.args.job)) e.reader e.writer e.log (c.reader-1.given.1 same_reader) (c.writer-1.given.1 same_writer) (c.log-1.given.1 same_log)
    (if_ok_map c.run_on.result (λ p h. completes_alone h) k.completes)

pub returns-clause-fails : goal.returns-clause-fails
returns-clause-fails g c =
    let e = c.new-ports.ensures in
    let k = c.run_on.ensures in
    let same_reader = sym (k.order.0.reader ∙ e.same_reader) in
    let same_writer = sym (k.order.0.writer ∙ e.same_writer) in
    let same_log = sym (k.order.0.log ∙ e.same_log) in
    given_back (λ r w l r' w' l'. IfErr c.run_on.result (Fails (devices_in r w l) (devices_in r' w' l') c.args.job)) e.reader e.writer e.log (c.reader-1.given.1 same_reader) (c.writer-1.given.1 same_writer) (c.log-1.given.1 same_log)
    (if_err_map c.run_on.result (λ f h. fails_alone h) k.fails)

pub returns-clause-decided : goal.returns-clause-decided
returns-clause-decided g c =
    let e = c.new-ports.ensures in
    let k = c.run_on.ensures in
    let same_reader = sym (k.order.0.reader ∙ e.same_reader) in
    let same_writer = sym (k.order.0.writer ∙ e.same_writer) in
    let same_log = sym (k.order.0.log ∙ e.same_log) in
    given_back (λ r w l r' w' l'. IfErr c.run_on.result (FailsDecided (devices_in r w l) (devices_in r' w' l') c.args.job)) e.reader e.writer e.log (c.reader-1.given.1 same_reader) (c.writer-1.given.1 same_writer) (c.log-1.given.1 same_log)
    (if_err_map c.run_on.result (λ f h. decided_alone h) k.decided)

pub returns-clause-failures : goal.returns-clause-failures
returns-clause-failures g c =
    let e = c.new-ports.ensures in
    let k = c.run_on.ensures in
    let same_reader = sym (k.order.0.reader ∙ e.same_reader) in
    let same_writer = sym (k.order.0.writer ∙ e.same_writer) in
    let same_log = sym (k.order.0.log ∙ e.same_log) in
    given_back (λ r w l r' w' l'. CountsFault (devices_in r w l) (devices_in r' w' l') c.run_on.result) e.reader e.writer e.log (c.reader-1.given.1 same_reader) (c.writer-1.given.1 same_writer) (c.log-1.given.1 same_log)
    (record { reader = k.failures.reader; writer = k.failures.writer; log = k.failures.log })

pub returns-clause-calls : goal.returns-clause-calls
returns-clause-calls g c =
    let e = c.new-ports.ensures in
    let k = c.run_on.ensures in
    let same_reader = sym (k.order.0.reader ∙ e.same_reader) in
    let same_writer = sym (k.order.0.writer ∙ e.same_writer) in
    let same_log = sym (k.order.0.log ∙ e.same_log) in
    given_back (λ r w l r' w' l'. RunCalls (ports r w l) (ports r' w' l') (length c.args.buffers.now.input.now) c.run_on.result) e.reader e.writer e.log (c.reader-1.given.1 same_reader) (c.writer-1.given.1 same_writer) (c.log-1.given.1 same_log)
    (run_calls_alone k.calls)

pub returns-clause-told : goal.returns-clause-told
returns-clause-told g c =
    let e = c.new-ports.ensures in
    let k = c.run_on.ensures in
    let same_reader = sym (k.order.0.reader ∙ e.same_reader) in
    let same_writer = sym (k.order.0.writer ∙ e.same_writer) in
    let same_log = sym (k.order.0.log ∙ e.same_log) in
    given_back (λ r w l r' w' l'. TellWhatPassed (devices_in r w l) (devices_in r' w' l') (told_in g.R.Read.remaining g.W.Write.contents g.L.Write.contents r w l) (told_in g.R.Read.remaining g.W.Write.contents g.L.Write.contents r' w' l')) e.reader e.writer e.log (c.reader-1.given.1 same_reader) (c.writer-1.given.1 same_writer) (c.log-1.given.1 same_log)
    (record { input = k.told.input; output = k.told.output; log = k.told.log })
