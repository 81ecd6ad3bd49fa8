use Rattle.encoding_codecs.specs.laws.Big5.{big5_exact}
use Rattle.encoding_codecs.proofs.laws.big5_text_reads_back.Goals as goal

pub returns : goal.returns
returns c = big5_exact
