use Rattle.encoding_codecs.specs.laws.Big5.{big5_steps}
use Rattle.encoding_codecs.proofs.laws.big5_steps.Goals as goal

pub returns : goal.returns
returns c = big5_steps
