use Rattle.recode.specs.Job.{trace}
use Rattle.recode.specs.laws.Parts.{log_bytes-noted}
use Rattle.recode.proofs.InputLemmas.{faithful_parts, later_is_valid, output_of_parts, pieces_parts, reports_of_parts, runs_through_parts, stops_in_first, text_parts, trace_of_parts, two_lines}
use Rattle.recode.proofs.laws.parts_are_the_whole.Goals as goal

pub returns : goal.returns
returns c = record {
  job = later_is_valid;
  pieces = pieces_parts;
  text = text_parts;
  runs_through = runs_through_parts;
  trace = trace_of_parts;
  stops = stops_in_first;
  output = output_of_parts;
  lines = two_lines;
  log = λ j x. log_bytes-noted (trace j x);
  verdict = faithful_parts;
  reports = λ j x y p q r v h. reports_of_parts j x y v h p q r;
}
