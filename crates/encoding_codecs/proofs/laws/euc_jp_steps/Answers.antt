use Rattle.encoding_codecs.specs.laws.CodecSteps.{euc_jp_step_law}
use Rattle.encoding_codecs.proofs.laws.euc_jp_steps.Goals as goal

pub returns : goal.returns
returns c = euc_jp_step_law
