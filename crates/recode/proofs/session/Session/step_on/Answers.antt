use Rattle.std.proofs.Common.{◌≡◌, ◌≤◌, ◌∙◌, [], ap, arith, length, refl, rules, sym, take}
use Rattle.std.proofs.lemmas.List.{nil_from_length}
use Rattle.std.proofs.lemmas.Bool.{ne_eqb, eqb-true}
use Rattle.recode_log.specs.laws.Calls.{passed_failed, passed_one}
use Rattle.recode.specs.Devices.{devices_at, reads_of}
use Rattle.recode.specs.Told.{TellWhatPassed, told_at}
use Rattle.recode.specs.calls.Writers.{is_end}
use Rattle.recode.proofs.TraceLemmas.{Gave-one, GaveToEnd-one, handed_on}
use Rattle.recode.proofs.StepLemmas.{stops_unread, stops_refused, stops_under}
use Rattle.recode.proofs.LatencyLemmas.{finishes, steps_on}
use Rattle.recode.proofs.OrderLemmas.{calls_chunk, calls_read, chunk_from, counts_chunk, counts_read, fault_handed, order_chunk, order_read, prefix_from, same_then, tells_ports, tells_read, written_kept}
use Rattle.recode_log.specs.laws.Told.{ended_before}
use Rattle.recode.proofs.session.Session.step_on.Given.{Over}
use Rattle.recode.proofs.session.Session.step_on.Goals.{After-read}
use Rattle.recode.proofs.session.Session.step_on.Goals as goal

-- What was read and written.

pub returns-in_default-clause-fault : goal.returns-in_default-clause-fault
returns-in_default-clause-fault g c = stops_unread _ _ _ _ _ _ _ _ (passed_failed _ _ _ c.in_default.ensures.call) (written_kept _ _ c.in_default.ensures.journal) (search rules)

pub returns-then-read-self-clause-fault : goal.returns-then-read-self-clause-fault
returns-then-read-self-clause-fault g c = stops_refused _ _ _ _ _ _ _ _ _ (passed_one _ _ _ _ c.in-Ok.ensures.call) (written_kept _ _ c.in-Ok.ensures.journal) (search rules)
    (omega (arith, c.in-Ok.ensures.bound.1, c.if-read-self.true))

pub returns-in_err-write_chunk-clause-fault : goal.returns-in_err-write_chunk-clause-fault
returns-in_err-write_chunk-clause-fault g c =
    let k = c.in_err-write_chunk.ensures in
    let within : c.args.self.now.engine.counts.read ≤ c.args.self.now.job.limit = search rules in
    let one = ap reads_of k.failures.journal.reader ∙ passed_one _ _ _ _ c.in-Ok.ensures.call in
    handed_on _ _ _ c.from_residual.ensures.1 (stops_under _ _ _ _ _ _ _
    (Gave-one _ _ _ one)
    (λ h. GaveToEnd-one _ _ _ one (nil_from_length _ (eqb-true _ 0 h)))
    k.failures.not_other
    (omega (arith, c.in-Ok.ensures.bound.1, c.if-read-self.false, within))
    (prefix_from _ _ _ (written_kept _ _ c.in-Ok.ensures.journal) k.err))

pub returns-else-read-eq0-clause-more : goal.returns-else-read-eq0-clause-more
returns-else-read-eq0-clause-more g c e =
    let k = c.in_ok-write_chunk.ensures in
    let on = ne_eqb (length (take c.in-Ok.read c.read.new.buf)) 0 (omega (arith, c.in-Ok.ensures.bound.1, c.if-read-eq0.false)) in
    steps_on _ _ _ _ _ _ _ (Gave-one _ _ _ (ap reads_of k.failures.journal.reader ∙ passed_one _ _ _ _ c.in-Ok.ensures.call)) (omega (arith, c.in-Ok.ensures.bound.1, c.if-read-eq0.false))
    (omega (arith, k.chunk.counted, c.in-Ok.ensures.bound.1, c.if-read-self.false)) (search rules) on (chunk_from _ _ _ (written_kept _ _ c.in-Ok.ensures.journal) k.chunk)

pub returns-then-read-eq0-clause-done : goal.returns-then-read-eq0-clause-done
returns-then-read-eq0-clause-done g c e =
    let k = c.in_ok-write_chunk.ensures in
    let none : take c.in-Ok.read c.read.new.buf ≡ [] = ap (λ n. take n c.read.new.buf) c.if-read-eq0.true in
    let within : c.args.self.now.engine.counts.read ≤ c.args.self.now.job.limit = search rules in
    finishes _ _ _ _ _ _ _ (GaveToEnd-one _ _ _ (ap reads_of k.failures.journal.reader ∙ passed_one _ _ _ _ c.in-Ok.ensures.call) none) none
    (omega (arith, k.chunk.counted, ap length none, within)) (ap is_end none) (chunk_from _ _ _ (written_kept _ _ c.in-Ok.ensures.journal) k.chunk)

-- What devices say of their bytes, if they do.

tells : (g : Over) (c : After-read g) → TellWhatPassed (devices_at c.args.ports.now) (devices_at c.read.new.self) (told_at g.R.Read.remaining g.W.Write.contents g.L.Write.contents c.args.ports.now) (told_at g.R.Read.remaining g.W.Write.contents g.L.Write.contents c.read.new.self)
tells g c = tells_read g.R.Read.remaining g.W.Write.contents g.L.Write.contents _ _ c.read.result c.read.new.buf c.read.ensures.journal c.read.ensures.call c.read.ensures.bytes c.read.ensures.bound (omega (arith, c.read.auto.buf, c.requires.buffers.input))

pub returns-in_default-clause-told : goal.returns-in_default-clause-told
returns-in_default-clause-told g c = (tells g (goal.at.returns-in_default-clause-told g c).After-read, λ is. absurd (cc))

pub returns-then-read-self-clause-told : goal.returns-then-read-self-clause-told
returns-then-read-self-clause-told g c = (tells g (goal.at.returns-then-read-self-clause-told g c).After-read, λ is. absurd (cc))

pub returns-in_err-write_chunk-clause-told : goal.returns-in_err-write_chunk-clause-told
returns-in_err-write_chunk-clause-told g c =
    let k = c.in_err-write_chunk.ensures in
    (tells_ports g.R.Read.remaining g.W.Write.contents g.L.Write.contents _ _ _ _ (tells g (goal.at.returns-in_err-write_chunk-clause-told g c).After-read) k.failures.journal k.told, λ is. absurd (rw is at c.from_residual.ensures.1))

pub returns-else-read-eq0-clause-told : goal.returns-else-read-eq0-clause-told
returns-else-read-eq0-clause-told g c =
    let k = c.in_ok-write_chunk.ensures in
    (tells_ports g.R.Read.remaining g.W.Write.contents g.L.Write.contents _ _ _ _ (tells g (goal.at.returns-else-read-eq0-clause-told g c).After-read) k.failures.journal k.told, λ is. cc)

pub returns-then-read-eq0-clause-told : goal.returns-then-read-eq0-clause-told
returns-then-read-eq0-clause-told g c =
    let k = c.in_ok-write_chunk.ensures in
    let none : c.in-Ok.read ≡ 0 = c.if-read-eq0.true in
    let end = c.in-Ok.ensures.bytes.1 none (omega (arith, c.read.auto.buf, c.requires.buffers.input)) in
    (tells_ports g.R.Read.remaining g.W.Write.contents g.L.Write.contents _ _ _ _ (tells g (goal.at.returns-then-read-eq0-clause-told g c).After-read) k.failures.journal k.told, λ is. ended_before _ _ _ c.in-Ok.ensures.bytes.0 (ap (λ n. take n c.read.new.buf) none) end)

-- The calls, and which of them failed.

pub returns-in_default-clause-calls : goal.returns-in_default-clause-calls
returns-in_default-clause-calls g c = calls_read _ _ _ c.in_default.ensures.journal c.in_default.ensures.call c.read.auto.buf refl tt

pub returns-then-read-self-clause-calls : goal.returns-then-read-self-clause-calls
returns-then-read-self-clause-calls g c = calls_read _ _ _ c.in-Ok.ensures.journal c.in-Ok.ensures.call c.read.auto.buf refl tt

pub returns-in_err-write_chunk-clause-calls : goal.returns-in_err-write_chunk-clause-calls
returns-in_err-write_chunk-clause-calls g c =
    let k = fault_handed _ _ c.from_residual.ensures.1 c.in_err-write_chunk.ensures.failures in
    calls_chunk _ _ _ c.in-Ok.ensures.journal c.in-Ok.ensures.call _ c.read.auto.buf (sym k.not_reader) k.journal k.output_calls k.log_calls k.last

pub returns-else-read-eq0-clause-calls : goal.returns-else-read-eq0-clause-calls
returns-else-read-eq0-clause-calls g c =
    let k = c.in_ok-write_chunk.ensures.failures in
    calls_chunk _ _ _ c.in-Ok.ensures.journal c.in-Ok.ensures.call _ c.read.auto.buf refl k.journal k.output_calls k.log_calls tt

pub returns-then-read-eq0-clause-calls : goal.returns-then-read-eq0-clause-calls
returns-then-read-eq0-clause-calls g c =
    let k = c.in_ok-write_chunk.ensures.failures in
    calls_chunk _ _ _ c.in-Ok.ensures.journal c.in-Ok.ensures.call _ c.read.auto.buf refl k.journal k.output_calls k.log_calls tt

pub returns-in_default-clause-failures : goal.returns-in_default-clause-failures
returns-in_default-clause-failures g c = counts_read _ _ c.in_default.ensures.journal c.in_default.ensures.err refl refl

pub returns-then-read-self-clause-failures : goal.returns-then-read-self-clause-failures
returns-then-read-self-clause-failures g c = counts_read _ _ c.in-Ok.ensures.journal (omega (arith, c.in-Ok.ensures.ok)) refl refl

pub returns-in_err-write_chunk-clause-failures : goal.returns-in_err-write_chunk-clause-failures
returns-in_err-write_chunk-clause-failures g c =
    let k = fault_handed _ _ c.from_residual.ensures.1 c.in_err-write_chunk.ensures.failures in
    counts_chunk _ _ c.in-Ok.ensures.journal _ c.in-Ok.ensures.ok k.journal k.not_reader k.writer k.log

pub returns-else-read-eq0-clause-failures : goal.returns-else-read-eq0-clause-failures
returns-else-read-eq0-clause-failures g c =
    let k = c.in_ok-write_chunk.ensures.failures in
    counts_chunk _ _ c.in-Ok.ensures.journal _ c.in-Ok.ensures.ok k.journal refl k.writer k.log

pub returns-then-read-eq0-clause-failures : goal.returns-then-read-eq0-clause-failures
returns-then-read-eq0-clause-failures g c =
    let k = c.in_ok-write_chunk.ensures.failures in
    counts_chunk _ _ c.in-Ok.ensures.journal _ c.in-Ok.ensures.ok k.journal refl k.writer k.log

-- Their order, and that the devices are the same.

pub returns-in_default-clause-order : goal.returns-in_default-clause-order
returns-in_default-clause-order g c = (c.in_default.ensures.journal.same, order_read _ _ _ c.in_default.ensures.journal c.in_default.ensures.call)

pub returns-then-read-self-clause-order : goal.returns-then-read-self-clause-order
returns-then-read-self-clause-order g c = (c.in-Ok.ensures.journal.same, order_read _ _ _ c.in-Ok.ensures.journal c.in-Ok.ensures.call)

pub returns-in_err-write_chunk-clause-order : goal.returns-in_err-write_chunk-clause-order
returns-in_err-write_chunk-clause-order g c = (
  same_then _ _ _ c.in-Ok.ensures.journal.same c.in_err-write_chunk.ensures.failures.journal.same,
  order_chunk _ _ _ c.in-Ok.ensures.journal c.in-Ok.ensures.call _ c.in_err-write_chunk.ensures.failures.journal,
)

pub returns-else-read-eq0-clause-order : goal.returns-else-read-eq0-clause-order
returns-else-read-eq0-clause-order g c = (
  same_then _ _ _ c.in-Ok.ensures.journal.same c.in_ok-write_chunk.ensures.failures.journal.same,
  order_chunk _ _ _ c.in-Ok.ensures.journal c.in-Ok.ensures.call _ c.in_ok-write_chunk.ensures.failures.journal,
)

pub returns-then-read-eq0-clause-order : goal.returns-then-read-eq0-clause-order
returns-then-read-eq0-clause-order g c = (
  same_then _ _ _ c.in-Ok.ensures.journal.same c.in_ok-write_chunk.ensures.failures.journal.same,
  order_chunk _ _ _ c.in-Ok.ensures.journal c.in-Ok.ensures.call _ c.in_ok-write_chunk.ensures.failures.journal,
)
