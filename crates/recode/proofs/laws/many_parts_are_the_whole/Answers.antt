use Rattle.recode.proofs.InputLemmas.{all_parts, lines_of_all}
use Rattle.recode.proofs.laws.many_parts_are_the_whole.Goals as goal

pub returns : goal.returns
returns c = record {
  output = λ j x parts v h are. (all_parts j x parts v h are).output;
  lines = λ j x parts v h are. lines_of_all j x parts (all_parts j x parts v h are);
  verdict = λ j x parts v h are. (all_parts j x parts v h are).verdict;
}
