use Rattle.encoding_codecs.specs.laws.CodecSteps.{shift_jis_step_law}
use Rattle.encoding_codecs.proofs.laws.shift_jis_steps.Goals as goal

pub returns : goal.returns
returns c = shift_jis_step_law
