use Rattle.std.proofs.Common.{◌++◌, arith, length, length-append}
use Rattle.recode.specs.Job.{input_text, log_of}
use Rattle.recode.specs.Parts.{later, lines_of}
use Rattle.recode_parts.proofs.SizeLemmas.{lines_can_be_moved, log_is_short}
use Rattle.recode_parts.proofs.laws.logs_of_parts_can_be_joined.Goals as goal

pub returns : goal.returns
returns c =
    let law = c.parts_are_the_whole.ensures in
    let logged = c.lines_of_runs_can_be_logged.ensures in
    record {
      moved = λ j x y valid cut through within.
          lines_can_be_moved (length x) (length (input_text j x)) (log_of (later j x) y) (lines_of j x) (lines_of (later j x) y) (lines_of j (x ++ y)) (law.log (later j x) y)
          (logged (later j x) y (law.job j x valid) (omega (arith, within, length-append x y))) (law.lines j x y valid cut through) (logged j (x ++ y) valid within);
      size = λ j x valid within.
          log_is_short c.lines_end_in_feeds.ensures j x (c.pieces_are_the_input.ensures.pieces j x valid) (c.pieces_are_the_input.ensures.sizes j x valid) (law.log j x) (logged j x valid within) within;
    }
