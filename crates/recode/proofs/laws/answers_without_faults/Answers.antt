use Rattle.recode.proofs.InputLemmas.{told_where_too_long, well_or_ended, well_where_through}
use Rattle.recode.proofs.laws.answers_without_faults.Goals as goal

pub returns : goal.returns
returns c = record {
  ok = λ j x s s' answer quiet. well_where_through j x s s' quiet answer;
  too_long = λ j x s s' answer quiet. told_where_too_long j x s s' quiet answer;
  either = λ j s s' answer quiet. well_or_ended j s s' quiet answer;
}
