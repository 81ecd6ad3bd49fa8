use Rattle.recode.proofs.TellLemmas.{completes_told, fails_told, reads_are, reads_end, reads_is_of, taken_is, tells_none, tells_on}
use Rattle.recode.proofs.laws.devices_tell.Goals as goal

pub returns : goal.returns
returns c = record { begins = tells_none; goes_on = tells_on; gave = reads_are; ended = reads_end; input = reads_is_of; took = taken_is; completes = λ d e t u j p h k. completes_told d e t u h j p k; fails = λ d e t u j f h k. fails_told d e t u h j f k }
