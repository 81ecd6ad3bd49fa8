use Rattle.encoding_mem.specs.laws.ReadBack.{utf8_exact}
use Rattle.encoding_mem.specs.laws.EncoderCalls.{utf8_output, utf8_lost_count}
use Rattle.encoding_mem.proofs.laws.utf8_output.Goals as goal

pub returns-clause-bytes : goal.returns-clause-bytes
returns-clause-bytes c = utf8_output

pub returns-clause-lost : goal.returns-clause-lost
returns-clause-lost c = utf8_lost_count

pub returns-clause-reads_back : goal.returns-clause-reads_back
returns-clause-reads_back c = utf8_exact
