use Rattle.encoding_codecs.specs.laws.EucKr.{euc_kr_steps}
use Rattle.encoding_codecs.proofs.laws.euc_kr_steps.Goals as goal

pub returns : goal.returns
returns c = euc_kr_steps
