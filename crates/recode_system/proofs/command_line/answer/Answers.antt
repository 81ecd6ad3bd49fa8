use Rattle.std.proofs.Common.{◌≡◌, ◌⊎◌, ◌∙◌, ℕ, List, Option, inl, inr, rules, sym}
use Rattle.recode.specs.Devices.{PortsView, ports}
use Rattle.recode.specs.Program.{FileTexts}
use Rattle.recode.proofs.AloneLemmas.{apart, given_back, left_alone, program_alone}
use Rattle.recode_system.specs.CommandLine.{AnswersSystem}
use Rattle.recode_system.proofs.command_line.answer.Goals as goal

-- what is said of devices with their journal is said of each alone
system_alone : {R W L : Type 0} (p q : PortsView R W L) (told : Option (List (List ℕ))) (holds : FileTexts) (remaining : R → Option (List ℕ)) (contents : W → Option (List ℕ)) (logged : L → Option (List ℕ)) (status : ℕ)
    → AnswersSystem told holds remaining contents logged p q status → AnswersSystem told holds remaining contents logged (apart p) (apart q) status
system_alone p q told holds remaining contents logged status (inl h) = inl record { answered = h.answered; refused = h.refused; alone = left_alone p q h.alone }
system_alone p q told holds remaining contents logged status (inr (inl h)) = inr (inl record { answered = h.answered; alone = left_alone p q h.alone })
system_alone p q told holds remaining contents logged status (inr (inr h)) = inr (inr record { words = h.words; given = h.given; texts = h.texts; answered = program_alone p q remaining contents logged holds _ status h.answered })

pub returns-clause-answered : goal.returns-clause-answered
returns-clause-answered g c =
    let e = c.new-ports.ensures in
    let k = c.answer_on.ensures in
    let same_reader = sym (k.same.reader ∙ e.same_reader) in
    let same_writer = sym (k.same.writer ∙ e.same_writer) in
    let same_log = sym (k.same.log ∙ e.same_log) in
    given_back (λ r w l r' w' l'. AnswersSystem (g.C.CommandLine.told c.args.line.now) (g.S.IndexSource.holds c.args.indexes.now) g.R.Read.remaining g.W.Write.contents g.L.Write.contents (ports r w l) (ports r' w' l') c.answer_on.result) e.reader e.writer e.log (search rules) (search rules) (search rules)
    (system_alone _ _ (g.C.CommandLine.told c.args.line.now) (g.S.IndexSource.holds c.args.indexes.now) g.R.Read.remaining g.W.Write.contents g.L.Write.contents c.answer_on.result k.answered)
