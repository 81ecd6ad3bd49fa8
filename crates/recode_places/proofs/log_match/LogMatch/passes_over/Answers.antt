use Rattle.std.proofs.Common.{◌+◌, length, sym, subst}
use Rattle.recode_places.specs.Fits.{Fits, FitsFrom, IsLeftOfLog}
use Rattle.recode_places.specs.calls.LogViews.{log_left_after, unread}
use Rattle.recode_places.specs.calls.Ready.{IsLineIfAny}
use Rattle.recode_places.proofs.FitsLemmas.{passed_outside}
use Rattle.recode_places.proofs.log_match.LogMatch.passes_over.Goals as goal

pub returns-in-Line : goal.returns-in-Line
returns-in-Line g c =
    let left = unread g.L.Read.remaining c.args.self.now.lines in
    record {
      fits = λ o t ps outside most h.
          subst (λ q. IsLeftOfLog (Fits (c.args.index + length t) o ps) (log_left_after q left)) (sym c.in-Line.is)
          (passed_outside c.args.index o c.args.len t ps c.in-Line.line left (subst IsLineIfAny c.in-Line.is c.args.self.now.line) (c.is_outside.ensures outside) most
          (subst (λ q. IsLeftOfLog (FitsFrom c.args.index o t ps) (log_left_after q left)) c.in-Line.is h));
    }
