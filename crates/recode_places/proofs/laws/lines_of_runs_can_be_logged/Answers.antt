use Rattle.recode_places.proofs.RunLogLemmas.{run_logged}
use Rattle.recode_places.proofs.laws.lines_of_runs_can_be_logged.Goals as goal

pub returns : goal.returns
returns c =
    let input = c.pieces_are_the_input.ensures in
    λ j x valid within. run_logged j x (input.pieces j x valid) (input.sizes j x valid) within
