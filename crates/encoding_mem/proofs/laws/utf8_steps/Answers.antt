use Rattle.encoding_mem.specs.laws.OneSet.{utf8_by_step}
use Rattle.encoding_mem.proofs.laws.utf8_steps.Goals as goal

pub returns : goal.returns
returns c = utf8_by_step
