use Rattle.encoding_mem.proofs.ConversionLemmas.{text_back}
use Rattle.encoding_mem.proofs.laws.utf16_reads_back.Goals as goal

pub returns : goal.returns
returns c = text_back
