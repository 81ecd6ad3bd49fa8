use Rattle.encoding_tables.specs.laws.SingleByteReadBack.{single_byte_steps}
use Rattle.encoding_tables.proofs.laws.single_byte_steps.Goals as goal

pub returns : goal.returns
returns c = single_byte_steps
