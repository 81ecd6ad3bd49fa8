use Rattle.recode_places.proofs.RunLogLemmas.{line_feed}
use Rattle.recode_places.proofs.laws.lines_end_in_feeds.Goals as goal

pub returns : goal.returns
returns c = line_feed
