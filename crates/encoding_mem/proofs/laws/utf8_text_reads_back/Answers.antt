use Rattle.encoding_mem.specs.laws.Utf8.{utf8_reads_back}
use Rattle.encoding_mem.proofs.laws.utf8_text_reads_back.Goals as goal

pub returns : goal.returns
returns c = utf8_reads_back
