use Rattle.std.proofs.Common.{◌∙◌, map, sym}
use Rattle.recode.specs.Devices.{ports}
use Rattle.recode.specs.Program.{AnswersProgram}
use Rattle.recode.proofs.AloneLemmas.{given_back, program_alone}
use Rattle.recode.proofs.entry.program.Goals as goal

pub returns-clause-answer : goal.returns-clause-answer
returns-clause-answer g c =
    let e = c.new-ports.ensures in
    let k = c.program_on.ensures in
    let same_reader = sym (k.same.reader ∙ e.same_reader) in
    let same_writer = sym (k.same.writer ∙ e.same_writer) in
    let same_log = sym (k.same.log ∙ e.same_log) in
    given_back (λ r w l r' w' l'. AnswersProgram (g.S.IndexSource.holds c.args.source.now) g.R.Read.remaining g.W.Write.contents g.L.Write.contents (ports r w l) (ports r' w' l') (map (λ s. s.now) c.args.words.now) c.program_on.result) e.reader e.writer e.log (c.reader-1.given.1 same_reader) (c.writer-1.given.1 same_writer) (c.log-1.given.1 same_log)
    (program_alone _ _ g.R.Read.remaining g.W.Write.contents g.L.Write.contents (g.S.IndexSource.holds c.args.source.now) (map (λ s. s.now) c.args.words.now) c.program_on.result k.answer)
