use Rattle.recode.proofs.InputLemmas.{quiet_whole, same_run, same_whole}
use Rattle.recode.proofs.laws.whole_texts_are_the_same.Goals as goal

pub returns : goal.returns
returns c = record { bytes = same_whole; run = same_run; log = quiet_whole }
