use Rattle.recode_places.proofs.FitsLemmas.{fits_at_first}
use Rattle.recode_places.proofs.log_match.LogMatch.new.Goals as goal

pub returns-clause-fits : goal.returns-clause-fits
returns-clause-fits g c = λ i o ps h. fits_at_first i o ps _ _ _ _ c.new-lines.ensures c.in_ok-next.ensures.read h
