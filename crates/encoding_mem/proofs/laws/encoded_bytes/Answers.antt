use Rattle.encoding_mem.specs.laws.EncoderCalls.{encoded_bytes}
use Rattle.encoding_mem.proofs.laws.encoded_bytes.Goals as goal

pub returns : goal.returns
returns c need e k ref last outcome before text written after rest = encoded_bytes ref e last outcome before text written after rest k
