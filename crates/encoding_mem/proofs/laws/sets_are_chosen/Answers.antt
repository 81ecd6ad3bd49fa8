use Rattle.encoding_mem.specs.laws.EncoderCalls.{encoded_moves}
use Rattle.encoding_mem.proofs.laws.sets_are_chosen.Goals as goal

pub returns : goal.returns
returns c = encoded_moves
