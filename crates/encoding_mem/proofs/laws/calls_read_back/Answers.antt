use Rattle.encoding_mem.specs.laws.ReadCalls.{reads_call}
use Rattle.encoding_mem.proofs.laws.calls_read_back.Goals as goal

pub returns : goal.returns
returns c = reads_call
