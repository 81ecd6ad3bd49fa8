use Rattle.std.proofs.Common.{◌≡◌, ◌∙◌, ◌++◌, ap, sym, map-id, chars}
use Rattle.std.proofs.lemmas.Iterator.{YieldsList-from_chars}
use Rattle.std.proofs.lemmas.Iterator.Consumers.{YieldsList-end}
use Rattle.recode_places_report.specs.Shown.{shown_as, shown_text}
use Rattle.recode_places_report.specs.declared.cell.Cell.TheVariants.{Character}
use Rattle.recode_places_report.proofs.ShownLemmas.{shown_text-next}
use Rattle.recode_places_report.proofs.cell.shown.Goals as goal

pub loop-c-preserved : goal.loop-c-preserved
loop-c-preserved c =
    c.in_ok-push_cell.ensures ∙ ap (λ x. x ++ shown_as (Character c.in-Some.c)) c.loop-c.invariant
    ∙ sym (shown_text-next c.loop-c.yielded c.in-Some.c)

pub returns : goal.returns
returns c =
    let done = YieldsList-end (YieldsList-from_chars c.args.text.now c.utf8.text cc) c.loop-c.yielded _ c.loop-c.yielded_by _ _ c.in-None.is c.next.ensures.steps in
    let all : c.loop-c.yielded ≡ chars c.args.text.now = sym (map-id c.loop-c.yielded) ∙ done.0 in
    c.loop-c.invariant ∙ ap shown_text all
