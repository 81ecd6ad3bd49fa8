use Rattle.std.proofs.Common.{◌≡◌, ◌∙◌, ◌∷◌, ◌+◌, ◌<◌, ◌⊎◌, sym, ap, subst, arith, inl, inr}
use Rattle.std.proofs.lemmas.Bool.{false≢true}
use Rattle.recode_log.specs.Line.{line_bytes}
use Rattle.recode_log.specs.declared.line.LogLine.TheVariants as line
use Rattle.recode_places.specs.Fits.{FitsFrom, IsLeftOfLog}
use Rattle.recode_places.specs.Logs.{IsLoggedAs, TakesLines}
use Rattle.recode_places.specs.calls.LogViews.{log_left_after, unread}
use Rattle.recode_places.specs.calls.Ready.{IsLineIfAny}
use Rattle.recode_places.specs.declared.log_lines.NextLine.TheVariants as next
use Rattle.recode_places.proofs.FitsLemmas.{never_unfit, passed_character, taken_character}
use Rattle.recode_places.proofs.ReadsLemmas.{line_named}
use Rattle.recode_places.proofs.log_match.LogMatch.names_character.Goals as goal
use Rattle.recode_places.proofs.log_match.LogMatch.names_character.Goals.{else-next-index-2-via-then-next-index-2+else-is_logged_as, else-next-index-2-via-else-next-index-2}

pub returns-in_ok-self-in-Line-Lost-clause-named : goal.returns-in_ok-self-in-Line-Lost-clause-named
returns-in_ok-self-in-Line-Lost-clause-named g c =
    let lost = line.Lost c.in-Line-Lost.next c.in-Line-Lost.scalar in
    let is : c.args.self.now.next ≡ next.Line lost = c.in-Line-Lost.is ∙ ap next.Line (rw c.in-Line-Lost.is at c.in-Line-Lost.field-0-is) in (
      line_bytes lost,
      subst (λ q. TakesLines (log_left_after q (unread g.L.Read.remaining c.args.self.now.lines)) (log_left_after c.in_ok-self-in-Line-Lost.field-0 (unread g.L.Read.remaining c.next_line.new.self)) (line_bytes lost)) (sym is) (line_named lost (unread g.L.Read.remaining c.args.self.now.lines) _ _ c.in_ok-self-in-Line-Lost.ensures.read),
      (c.in-Line-Lost.scalar, c.is_logged_as.ensures.0 c.if-is_logged_as.true, ap (λ i. line_bytes (line.Lost i c.in-Line-Lost.scalar)) c.if-next-index-2.true),
    )

pub returns-in_ok-self-in-Line-Lost-clause-fits : goal.returns-in_ok-self-in-Line-Lost-clause-fits
returns-in_ok-self-in-Line-Lost-clause-fits g c = λ o t ps h.
    let lost = line.Lost c.in-Line-Lost.next c.in-Line-Lost.scalar in
    let is : c.args.self.now.next ≡ next.Line lost = c.in-Line-Lost.is ∙ ap next.Line (rw c.in-Line-Lost.is at c.in-Line-Lost.field-0-is) in
    taken_character c.args.index o c.args.c c.in-Line-Lost.next c.in-Line-Lost.scalar t ps (unread g.L.Read.remaining c.args.self.now.lines) (subst IsLineIfAny is c.args.self.now.line) (omega arith) _ _ c.in_ok-self-in-Line-Lost.ensures.read
    (subst (λ q. IsLeftOfLog (FitsFrom c.args.index o (c.args.c ∷ t) ps) (log_left_after q (unread g.L.Read.remaining c.args.self.now.lines))) is h)

pub returns-then-next-index-clause-fits : goal.returns-then-next-index-clause-fits
returns-then-next-index-clause-fits g c = λ o t ps h.
    let lost = line.Lost c.in-Line-Lost.next c.in-Line-Lost.scalar in
    let is : c.args.self.now.next ≡ next.Line lost = c.in-Line-Lost.is ∙ ap next.Line (rw c.in-Line-Lost.is at c.in-Line-Lost.field-0-is) in
    let left = unread g.L.Read.remaining c.args.self.now.lines in
    subst (λ q. IsLeftOfLog (FitsFrom (c.args.index + 1) o t ps) (log_left_after q left)) (sym is)
    (passed_character c.args.index o c.args.c c.in-Line-Lost.next c.in-Line-Lost.scalar t ps left (subst IsLineIfAny is c.args.self.now.line) (omega (arith, c.if-next-index.true))
    (subst (λ q. IsLeftOfLog (FitsFrom c.args.index o (c.args.c ∷ t) ps) (log_left_after q left)) is h))

pub returns-else-next-index-2-clause-fits : goal.returns-else-next-index-2-clause-fits
returns-else-next-index-2-clause-fits g c = λ o t ps h.
    let lost = line.Lost c.in-Line-Lost.next c.in-Line-Lost.scalar in
    let is : c.args.self.now.next ≡ next.Line lost = c.in-Line-Lost.is ∙ ap next.Line (rw c.in-Line-Lost.is at c.in-Line-Lost.field-0-is) in
    let left = unread g.L.Read.remaining c.args.self.now.lines in
    let other : (c.in-Line-Lost.next < c.args.index) ⊎ ¬ (IsLoggedAs c.args.c c.in-Line-Lost.scalar) = elim c.else-next-index-2.branch [
      | else-next-index-2-via-then-next-index-2+else-is_logged_as w ↦ inr (λ logged. false≢true (sym w.if-is_logged_as.false ∙ w.is_logged_as.ensures.1 logged))
      | else-next-index-2-via-else-next-index-2 w ↦ inl (omega (arith, w.if-next-index-2.false, c.if-next-index.false))
    ] in
    absurd (never_unfit c.args.index o c.args.c c.in-Line-Lost.next c.in-Line-Lost.scalar t ps left (subst IsLineIfAny is c.args.self.now.line) (omega (arith, c.if-next-index.false)) other
    (subst (λ q. IsLeftOfLog (FitsFrom c.args.index o (c.args.c ∷ t) ps) (log_left_after q left)) is h))
