use Rattle.encoding_mem.specs.laws.ReadCalls.{verdict_of_call}
use Rattle.encoding_mem.proofs.laws.calls_have_verdicts.Goals as goal

pub returns : goal.returns
returns c = verdict_of_call
