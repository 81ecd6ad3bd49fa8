use Rattle.encoding_front.specs.laws.Input.{recoded_at_once}
use Rattle.encoding_front.proofs.laws.both_at_once.Goals as goal

pub returns : goal.returns
returns c = recoded_at_once
