use Rattle.std.proofs.Common.{ap}
use Rattle.encoding_front.proofs.EncodingLemmas.{given, same_given}
use Rattle.encoding_front.proofs.laws.equality.Goals as goal

pub returns-clause-hash : goal.returns-clause-hash
returns-clause-hash c = λ d e. (same_given d e, λ same. ap given same)
