use Rattle.recode.proofs.InputLemmas.{known_completes, known_fails, known_too_long}
use Rattle.recode.proofs.laws.known_input.Goals as goal

pub returns : goal.returns
returns c = record { completes = known_completes; fails = known_fails; too_long = known_too_long }
