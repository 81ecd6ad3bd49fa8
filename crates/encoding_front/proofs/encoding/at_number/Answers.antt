use Rattle.encoding_front.proofs.EncodingLemmas.{number_at}
use Rattle.encoding_front.proofs.encoding.at_number.Goals as goal

pub returns : goal.returns
returns c = number_at c.args.number _ c.requires
