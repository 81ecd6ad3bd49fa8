use Rattle.std.proofs.Common.{ℕ, List, ◌∙◌, ◌++◌, ap, sym, subst, arith, length}
use Rattle.recode.specs.Job.{input_text, log_of, output_of}
use Rattle.recode.specs.Parts.{later}
use Rattle.recode_parts.specs.Joins.{MovesLines}
use Rattle.recode_parts.proofs.laws.joined_runs_are_a_run.Goals as goal

pub returns : goal.returns
returns c =
    let law = c.parts_are_the_whole.ensures in
    λ j x y v w p q reads reads' log valid cut one other joins part.
    let k = length (input_text j x) in
    let through = one.whole.unstopped in
    let moves = subst (λ (n : ℕ). MovesLines n k (log_of (later j x) y) joins.moved) one.report.read (subst (λ (l : List ℕ). MovesLines p.read k l joins.moved) (part ∙ other.whole.logged) joins.lines) in (
      law.output j x y valid cut through ∙ ap (λ l. l ++ output_of (later j x) y) (sym one.whole.output) ∙ ap (λ l. v.output ++ l) (sym other.whole.output),
      c.joined_logs_are_the_log.ensures j x y joins.moved valid cut through (omega (arith, other.whole.within, valid.limit)) moves ∙ ap (λ l. l ++ joins.moved) (sym one.whole.logged) ∙ sym joins.wrote,
    )
