use Rattle.recode_places.specs.calls.LogViews.{unread}
use Rattle.recode_places.proofs.FitsLemmas.{no_end_here}
use Rattle.recode_places.proofs.log_match.LogMatch.finish.Goals as goal

pub returns-in-Line-clause-fits : goal.returns-in-Line-clause-fits
returns-in-Line-clause-fits g c = λ h.
    absurd (no_end_here c.args.self.now.next (unread g.L.Read.remaining c.args.self.now.lines) c.args.self.now.line c.in-Line.is h)
