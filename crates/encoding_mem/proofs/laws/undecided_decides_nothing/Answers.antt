use Rattle.encoding_mem.specs.laws.Event.{decides_nothing}
use Rattle.encoding_mem.proofs.laws.undecided_decides_nothing.Goals as goal

pub returns : goal.returns
returns c = decides_nothing
