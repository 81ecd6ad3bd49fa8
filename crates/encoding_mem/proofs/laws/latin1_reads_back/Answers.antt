use Rattle.encoding_mem.proofs.ConversionLemmas.{latin1_text, latin1_chars}
use Rattle.encoding_mem.proofs.laws.latin1_reads_back.Goals as goal

pub returns-clause-text : goal.returns-clause-text
returns-clause-text c = latin1_text

pub returns-clause-bytes : goal.returns-clause-bytes
returns-clause-bytes c = latin1_chars
