use Rattle.std.proofs.Common.{length}
use Rattle.recode.specs.Job.{input_text}
use Rattle.recode.specs.Parts.{later}
use Rattle.recode_parts.proofs.WholeLemmas.{joined}
use Rattle.recode_parts.proofs.laws.joined_logs_are_the_log.Goals as goal

pub returns : goal.returns
returns c =
    let law = c.parts_are_the_whole.ensures in
    λ j x y moved valid cut through within moves.
    joined c.lines_are_told_apart.ensures j x y moved (length x) (length (input_text j x)) (law.log j x) (law.log (later j x) y) (law.log j _) (law.lines j x y valid cut through)
    (c.lines_of_runs_can_be_logged.ensures (later j x) y (law.job j x valid) within) moves
