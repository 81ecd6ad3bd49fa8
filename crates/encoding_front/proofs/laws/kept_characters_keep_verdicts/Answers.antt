use Rattle.encoding_front.specs.laws.Encoder.{kept_verdict}
use Rattle.encoding_front.proofs.laws.kept_characters_keep_verdicts.Goals as goal

pub returns : goal.returns
returns c = kept_verdict
