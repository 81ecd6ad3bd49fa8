use Rattle.std.proofs.Common.{◌≡◌, ◌⊎◌, ℕ, List, Option, inl, inr, map, rules}
use Rattle.recode_words.specs.Request.{AsksFor}
use Rattle.recode_words.specs.declared.request.Request.TheVariants.{Run}
use Rattle.recode_words.specs.declared.words.Words.{Words}
use Rattle.recode.specs.Devices.{PortsView, ports_at}
use Rattle.recode.specs.Program.{AnswersProgram, AnswersWords, AskForFiles, FileTexts, NeedAnIndex}
use Rattle.recode.proofs.entry.program_on.Goals as goal

answers : {R W L : Type 0} (holds : FileTexts) (remaining : R → Option (List ℕ)) (contents : W → Option (List ℕ)) (logged : L → Option (List ℕ)) (before after : PortsView R W L)
    (words : List (List ℕ)) (w : Words) (status : ℕ) → AsksFor words (Run w) → AnswersWords holds remaining contents logged before after w status
    → AnswersProgram holds remaining contents logged before after words status
answers holds remaining contents logged before after words w status meant (inl (two, unknown, alone)) =
    inl record { answered = two; refused = inr (inr record { w = w; meant = meant; unknown = unknown }); alone = alone }
answers holds remaining contents logged before after words w status meant (inr (inl (three, alone))) =
    inr (inl record { answered = three; alone = alone })
answers holds remaining contents logged before after words w status meant (inr (inr (j, job, files, converted))) =
    inr (inr (inr record { w = w; meant = meant; j = j; job = job; files = files; converted = converted }))

alone : {S : Type 0} (old new : S) (words : List (List ℕ)) (w : Words) → AsksFor words (Run w) → (new ≡ old) ⊎ NeedAnIndex w → (new ≡ old) ⊎ AskForFiles words
alone old new words w meant (inl same) = inl same
alone old new words w meant (inr needs) = inr (w, meant, needs)

pub returns-in-Ok-Run-clause-source : goal.returns-in-Ok-Run-clause-source
returns-in-Ok-Run-clause-source g c =
    alone c.args.source.now c.run_words.new.source (map (λ s. s.now) c.args.words.now) c.in-Ok-Run.words (rw c.in-Ok-Run.field-0-is at c.in-Ok-Run.ensures.ok) (rw c.in-Ok-Run.words-is at c.run_words.ensures.source)

pub returns-in-Ok-Run-clause-answer : goal.returns-in-Ok-Run-clause-answer
returns-in-Ok-Run-clause-answer g c =
    answers (g.S.IndexSource.holds c.args.source.now) g.R.Read.remaining g.W.Write.contents g.L.Write.contents (ports_at c.args.ports.now) (ports_at c.run_words.new.ports)
    (map (λ s. s.now) c.args.words.now) c.in-Ok-Run.words c.run_words.result (rw c.in-Ok-Run.field-0-is at c.in-Ok-Run.ensures.ok) (rw c.in-Ok-Run.words-is at c.run_words.ensures.answer)

pub returns-in-Err-Refused-clause-answer : goal.returns-in-Err-Refused-clause-answer
returns-in-Err-Refused-clause-answer g c =
    let e = c.refuse_words.ensures in
    inl record { answered = e.status; refused = search rules; alone = record { unread = e.journal.reader; unwritten = e.journal.writer; told = e.told } }
