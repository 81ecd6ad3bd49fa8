use Rattle.encoding_codecs.specs.laws.CodecSteps.{gb18030_step_law}
use Rattle.encoding_codecs.proofs.laws.gb18030_steps.Goals as goal

pub returns : goal.returns
returns c = gb18030_step_law
