use Rattle.encoding_mem.specs.laws.EncoderCalls.{utf8_calls_are_longest}
use Rattle.encoding_mem.proofs.laws.utf8_calls_are_longest.Goals as goal

pub returns : goal.returns
returns c = utf8_calls_are_longest
