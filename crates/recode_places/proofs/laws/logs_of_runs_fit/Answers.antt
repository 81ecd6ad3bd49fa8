use Rattle.recode_places.proofs.RunLogLemmas.{fault_ends, lines_fit, log_fits}
use Rattle.recode_places.proofs.laws.logs_of_runs_fit.Goals as goal

pub returns : goal.returns
returns c =
    let input = c.pieces_are_the_input.ensures in
    record {
      log = λ j x bytes valid within prefix.
          log_fits j x (input.pieces j x valid) (input.sizes j x valid) within (c.trace_of_input.ensures.log j x) (c.stops_at_first_loss.ensures.log j x) bytes prefix;
      lines = λ j x end lines valid within prefix ends. lines_fit j x (input.pieces j x valid) (input.sizes j x valid) within lines end prefix ends;
      message = fault_ends;
    }
