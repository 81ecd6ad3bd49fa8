use Rattle.encoding_front.specs.laws.Input.{marked_few}
use Rattle.recode.proofs.StopLemmas.{output_within}
use Rattle.recode.proofs.laws.lengths_are_bounded.Goals as goal

pub returns : goal.returns
returns c = record { text = λ j x v. marked_few j.tables.now j.mark j.from x v.tables; output = output_within }
