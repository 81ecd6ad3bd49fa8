use Rattle.std.proofs.Common.{◌≡◌, ◌∙◌, ◌∷◌, [], ◌+◌, ◌<◌, ◌⊎◌, sym, ap, subst, arith, inl, inr}
use Rattle.encoding_mem.specs.Piece.{malformed}
use Rattle.recode_log.specs.declared.line.LogLine.TheVariants as line
use Rattle.recode_places.specs.Fits.{Fits, FitsFrom, IsLeftOfLog}
use Rattle.recode_places.specs.calls.LogViews.{log_left_after, unread}
use Rattle.recode_places.specs.calls.Ready.{IsLineIfAny}
use Rattle.recode_places.specs.declared.log_lines.NextLine.TheVariants as next
use Rattle.recode_places.proofs.FitsLemmas.{never_unfit_sequence, passed_sequence, taken_sequence}
use Rattle.recode_places.proofs.log_match.LogMatch.names_sequence.Goals as goal
use Rattle.recode_places.proofs.log_match.LogMatch.names_sequence.Goals.{else-next-offset-2-via-then-next-offset-2+else-len-length, else-next-offset-2-via-else-next-offset-2}

pub returns-then-next-offset-clause-fits : goal.returns-then-next-offset-clause-fits
returns-then-next-offset-clause-fits g c = λ i ps some h.
    let bad = line.Bad c.in-Line-Bad.next c.in-Line-Bad.len in
    let is : c.args.self.now.next ≡ next.Line bad = c.in-Line-Bad.is ∙ ap next.Line (rw c.in-Line-Bad.is at c.in-Line-Bad.field-0-is) in
    let left = unread g.L.Read.remaining c.args.self.now.lines in
    subst (λ q. IsLeftOfLog (FitsFrom i (c.args.offset + c.args.length) (0xFFFD ∷ []) ps) (log_left_after q left)) (sym is)
    (passed_sequence i c.args.offset c.args.length ps left some c.in-Line-Bad.next c.in-Line-Bad.len (subst IsLineIfAny is c.args.self.now.line) (omega (arith, c.if-next-offset.true))
    (subst (λ q. IsLeftOfLog (Fits i c.args.offset (malformed c.args.length ∷ ps)) (log_left_after q left)) is h))

pub returns-in_ok-self-in-Line-Bad-clause-fits : goal.returns-in_ok-self-in-Line-Bad-clause-fits
returns-in_ok-self-in-Line-Bad-clause-fits g c = λ i ps some h.
    let bad = line.Bad c.in-Line-Bad.next c.in-Line-Bad.len in
    let is : c.args.self.now.next ≡ next.Line bad = c.in-Line-Bad.is ∙ ap next.Line (rw c.in-Line-Bad.is at c.in-Line-Bad.field-0-is) in
    let left = unread g.L.Read.remaining c.args.self.now.lines in
    taken_sequence i c.args.offset c.args.length ps left some c.in-Line-Bad.next c.in-Line-Bad.len (subst IsLineIfAny is c.args.self.now.line) (omega (arith, c.if-next-offset.false)) _ _ c.in_ok-self-in-Line-Bad.ensures.read
    (subst (λ q. IsLeftOfLog (Fits i c.args.offset (malformed c.args.length ∷ ps)) (log_left_after q left)) is h)

pub returns-else-next-offset-2-clause-fits : goal.returns-else-next-offset-2-clause-fits
returns-else-next-offset-2-clause-fits g c = λ i ps some h.
    let bad = line.Bad c.in-Line-Bad.next c.in-Line-Bad.len in
    let is : c.args.self.now.next ≡ next.Line bad = c.in-Line-Bad.is ∙ ap next.Line (rw c.in-Line-Bad.is at c.in-Line-Bad.field-0-is) in
    let left = unread g.L.Read.remaining c.args.self.now.lines in
    let other : (c.in-Line-Bad.next < c.args.offset) ⊎ ¬ (c.in-Line-Bad.len ≡ c.args.length) = elim c.else-next-offset-2.branch [
      | else-next-offset-2-via-then-next-offset-2+else-len-length w ↦ inr w.if-len-length.false
      | else-next-offset-2-via-else-next-offset-2 w ↦ inl (omega (arith, w.if-next-offset-2.false, c.if-next-offset.false))
    ] in
    absurd (never_unfit_sequence i c.args.offset c.args.length ps left some c.in-Line-Bad.next c.in-Line-Bad.len (subst IsLineIfAny is c.args.self.now.line) (omega (arith, c.if-next-offset.false)) other
    (subst (λ q. IsLeftOfLog (Fits i c.args.offset (malformed c.args.length ∷ ps)) (log_left_after q left)) is h))
