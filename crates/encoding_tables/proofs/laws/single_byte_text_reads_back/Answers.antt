use Rattle.encoding_tables.specs.laws.SingleByteReadBack.{single_byte_exact}
use Rattle.encoding_tables.proofs.laws.single_byte_text_reads_back.Goals as goal

pub returns : goal.returns
returns c = single_byte_exact
