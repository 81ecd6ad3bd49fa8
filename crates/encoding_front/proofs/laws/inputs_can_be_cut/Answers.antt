use Rattle.encoding_front.specs.laws.Parts.{parts_of, stands_alone_of}
use Rattle.encoding_front.proofs.laws.inputs_can_be_cut.Goals as goal

pub returns : goal.returns
returns c = record {
  alone = λ t e a taken ascii cut. stands_alone_of t e a ascii taken cut;
  marked = λ t mark e x y taken ends ascii. (parts_of t mark e x y taken ends ascii).1;
}
