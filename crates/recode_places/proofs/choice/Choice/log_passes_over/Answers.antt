use Rattle.std.proofs.Common.{◌+◌, length, sym, subst}
use Rattle.recode_places.specs.Fits.{Fits, FitsFrom, IsLeftOfLog}
use Rattle.recode_places.specs.calls.LogViews.{left_of_option}
use Rattle.recode_places.proofs.choice.Choice.log_passes_over.Goals as goal

pub returns-in-Some : goal.returns-in-Some
returns-in-Some g c = record {
  fits = λ o t ps yes most h.
      subst (λ q. IsLeftOfLog (Fits (c.args.index + length t) o ps) (left_of_option g.L.Read.remaining q)) (sym c.in-Some.is)
      (c.passes_over.ensures.fits o t ps yes most (subst (λ q. IsLeftOfLog (FitsFrom c.args.index o t ps) (left_of_option g.L.Read.remaining q)) c.in-Some.is h));
}
