use Rattle.encoding_front.specs.laws.Input.{marked_are_pieces}
use Rattle.recode.proofs.InputLemmas.{input_covers, input_joined, input_whole}
use Rattle.recode.proofs.laws.pieces_are_the_input.Goals as goal

pub returns : goal.returns
returns c = record { pieces = λ j x v. marked_are_pieces j.tables.now j.mark j.from x v.tables; sizes = input_whole; covers = input_covers; joined = input_joined }
