use Rattle.encoding_front.specs.laws.Input.{marked_are_pieces, marked_few, marked_scalars, marked_whole, short_recoded}
use Rattle.encoding_front.proofs.laws.input_is_its_pieces.Goals as goal

pub returns : goal.returns
returns c = record {
  pieces = marked_are_pieces;
  whole = marked_whole;
  few = marked_few;
  scalars = marked_scalars;
  recoded = short_recoded;
}
