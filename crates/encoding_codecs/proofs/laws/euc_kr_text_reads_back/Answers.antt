use Rattle.encoding_codecs.specs.laws.EucKr.{euc_kr_exact}
use Rattle.encoding_codecs.proofs.laws.euc_kr_text_reads_back.Goals as goal

pub returns : goal.returns
returns c = euc_kr_exact
