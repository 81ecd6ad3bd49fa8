use Rattle.recode.proofs.InputLemmas.{no_lost_lines, none_lost_in_utf8}
use Rattle.recode.proofs.laws.utf8_loses_nothing.Goals as goal

pub returns : goal.returns
returns c = record { lines = no_lost_lines; lost = none_lost_in_utf8 }
