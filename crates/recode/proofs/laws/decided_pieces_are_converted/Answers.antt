use Rattle.recode.proofs.LatencyLemmas.{decided, fixed, longest, soon}
use Rattle.recode.proofs.laws.decided_pieces_are_converted.Goals as goal

pub returns : goal.returns
returns c = record { decided = decided; fixed = fixed; longest = longest; soon = soon }
