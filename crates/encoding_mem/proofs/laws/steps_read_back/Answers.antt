use Rattle.encoding_mem.specs.laws.Agreement.{reads_back_or_breaks}
use Rattle.encoding_mem.proofs.laws.steps_read_back.Goals as goal

pub returns : goal.returns
returns c = reads_back_or_breaks
