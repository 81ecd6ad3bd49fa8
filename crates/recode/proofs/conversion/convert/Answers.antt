use Rattle.std.proofs.Common.{◌≡◌, ◌≢◌, ◌∙◌, length, sym}
use Rattle.recode.specs.Conversion.{Converts, EndsInFault, IsConversion}
use Rattle.recode.specs.Devices.{devices_in, ports}
use Rattle.recode.specs.Told.{TellWhatPassed, told_in}
use Rattle.recode.proofs.AloneLemmas.{conversion_alone, converts_alone, ends_alone, given_back}
use Rattle.recode.proofs.conversion.convert.Goals as goal

pub returns-clause-conversion : goal.returns-clause-conversion
returns-clause-conversion g c =
    let e = c.new-ports.ensures in
    let k = c.convert_on.ensures in
    let same_reader = sym (k.same.reader ∙ e.same_reader) in
    let same_writer = sym (k.same.writer ∙ e.same_writer) in
    let same_log = sym (k.same.log ∙ e.same_log) in
    given_back (λ r w l r' w' l'. IsConversion (ports r w l) (ports r' w' l') c.args.job (length c.args.buffers.now.input.now) c.convert_on.result) e.reader e.writer e.log (c.reader-1.given.1 same_reader) (c.writer-1.given.1 same_writer) (c.log-1.given.1 same_log)
    (conversion_alone _ _ k.conversion)

pub returns-clause-converts : goal.returns-clause-converts
returns-clause-converts g c =
    let e = c.new-ports.ensures in
    let k = c.convert_on.ensures in
    let same_reader = sym (k.same.reader ∙ e.same_reader) in
    let same_writer = sym (k.same.writer ∙ e.same_writer) in
    let same_log = sym (k.same.log ∙ e.same_log) in
    given_back (λ r w l r' w' l'. c.convert_on.result ≢ 4 → Converts (devices_in r w l) (devices_in r' w' l') c.args.job c.convert_on.result) e.reader e.writer e.log (c.reader-1.given.1 same_reader) (c.writer-1.given.1 same_writer) (c.log-1.given.1 same_log)
    (λ not. converts_alone (k.converts not))

pub returns-clause-faults : goal.returns-clause-faults
returns-clause-faults g c =
    let e = c.new-ports.ensures in
    let k = c.convert_on.ensures in
    let same_reader = sym (k.same.reader ∙ e.same_reader) in
    let same_writer = sym (k.same.writer ∙ e.same_writer) in
    let same_log = sym (k.same.log ∙ e.same_log) in
    given_back (λ r w l r' w' l'. c.convert_on.result ≡ 4 → EndsInFault (devices_in r w l) (devices_in r' w' l') c.args.job) e.reader e.writer e.log (c.reader-1.given.1 same_reader) (c.writer-1.given.1 same_writer) (c.log-1.given.1 same_log)
    (λ is. ends_alone (k.faults is))

pub returns-clause-quiet : goal.returns-clause-quiet
returns-clause-quiet g c =
    let e = c.new-ports.ensures in
    let k = c.convert_on.ensures in
    let same_reader = sym (k.same.reader ∙ e.same_reader) in
    let same_writer = sym (k.same.writer ∙ e.same_writer) in
    let same_log = sym (k.same.log ∙ e.same_log) in
    given_back (λ r w l r' w' l'. c.convert_on.result ≢ 4 → (devices_in r' w' l').failures ≡ (devices_in r w l).failures) e.reader e.writer e.log (c.reader-1.given.1 same_reader) (c.writer-1.given.1 same_writer) (c.log-1.given.1 same_log)
    (k.quiet)

pub returns-clause-told : goal.returns-clause-told
returns-clause-told g c =
    let e = c.new-ports.ensures in
    let k = c.convert_on.ensures in
    let same_reader = sym (k.same.reader ∙ e.same_reader) in
    let same_writer = sym (k.same.writer ∙ e.same_writer) in
    let same_log = sym (k.same.log ∙ e.same_log) in
    given_back (λ r w l r' w' l'. TellWhatPassed (devices_in r w l) (devices_in r' w' l') (told_in g.R.Read.remaining g.W.Write.contents g.L.Write.contents r w l) (told_in g.R.Read.remaining g.W.Write.contents g.L.Write.contents r' w' l')) e.reader e.writer e.log (c.reader-1.given.1 same_reader) (c.writer-1.given.1 same_writer) (c.log-1.given.1 same_log)
    (record { input = k.told.input; output = k.told.output; log = k.told.log })
