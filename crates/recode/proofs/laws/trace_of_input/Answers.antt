use Rattle.std.proofs.Common.{◌∙◌, ap}
use Rattle.recode.specs.WrittenItems.{bad_line_count, lost_line_count}
use Rattle.recode.proofs.StopLemmas.{bads_of, log_where_spared, losts_of, output_where_spared, runs_through, trace_where_spared}
use Rattle.recode.proofs.laws.trace_of_input.Goals as goal

pub returns : goal.returns
returns c = record {
  output = λ j x through. output_where_spared j x (runs_through j x through);
  log = λ j x through. log_where_spared j x (runs_through j x through);
  bad = λ j x through. ap bad_line_count (trace_where_spared j x (runs_through j x through)) ∙ bads_of j x;
  lost = λ j x through. ap lost_line_count (trace_where_spared j x (runs_through j x through)) ∙ losts_of j x;
}
