use Rattle.recode_places.proofs.LineLemmas.{line_split}
use Rattle.recode_places.proofs.laws.lines_are_told_apart.Goals as goal

pub returns : goal.returns
returns c = line_split
