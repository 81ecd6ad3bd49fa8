use Rattle.std.proofs.Common.{◌≡◌, ◌⊎◌, inl, ◌∷◌, Some, ap, sym, subst, ◌∙◌}
use Rattle.encoding_index.specs.IndexText.{lines_in, first_fault, memory_fault}
use Rattle.encoding_index.specs.laws.Outcomes.{outcomes}
use Rattle.encoding_index.specs.laws.RowsLeft.{outcomes_left}
use Rattle.encoding_index.proofs.LoadLemmas.{IfErr-from_residual, err_is}
use Rattle.encoding_index.proofs.FaultLemmas.{fault_has_a_line}
use Rattle.encoding_index.proofs.RowLemmas.{IsGathering, gathering_stops, gathering_has_rows, gathering_ends}
use Rattle.encoding_index.proofs.reading.rows_below.Goals as goal

pub returns-in_err-row-clause-fault : goal.returns-in_err-row-clause-fault
returns-in_err-row-clause-fault c =
    let all = outcomes c.args.size 0 0 (lines_in c.args.text.now) in
    let fault = c.in_err-row.field-0.0 in
    let next = c.in-Some.ensures.steps ∙ ap (λ row. row ∷ outcomes_left c.next.new.self) c.in_err-row.was in
    let found : first_fault c.args.size c.args.text.now ≡ Some fault = gathering_stops c.args.size c.args.text.now c.loop-row.rows.items fault (outcomes_left c.next.new.self) (subst (IsGathering all c.loop-row.rows.items) next c.loop-row.invariant) in
    IfErr-from_residual c.from_residual.result fault (λ told. (first_fault c.args.size c.args.text.now ≡ Some told) ⊎ (told ≡ memory_fault)) c.from_residual.ensures.1 (inl found)

pub returns-clause-rows : goal.returns-clause-rows
returns-clause-rows c =
    let all = outcomes c.args.size 0 0 (lines_in c.args.text.now) in
    gathering_ends c.args.size c.args.text.now c.loop-row.rows.items (subst (IsGathering all c.loop-row.rows.items) c.in-None.ensures.steps.0 c.loop-row.invariant)

pub returns-in_err-row-clause-grows : goal.returns-in_err-row-clause-grows
returns-in_err-row-clause-grows c = λ none same.
    let all = outcomes c.args.size 0 0 (lines_in c.args.text.now) in
    let fault = c.in_err-row.field-0.0 in
    let next = c.in-Some.ensures.steps ∙ ap (λ row. row ∷ outcomes_left c.next.new.self) c.in_err-row.was in
    let found : first_fault c.args.size c.args.text.now ≡ Some fault = gathering_stops c.args.size c.args.text.now c.loop-row.rows.items fault (outcomes_left c.next.new.self) (subst (IsGathering all c.loop-row.rows.items) next c.loop-row.invariant) in
    let told = sym (err_is c.from_residual.result fault c.from_residual.ensures.1) ∙ same in
    fault_has_a_line c.args.size c.args.text.now fault found cc

pub returns-in_err-push-clause-grows : goal.returns-in_err-push-clause-grows
returns-in_err-push-clause-grows c = λ none same.
    let all = outcomes c.args.size 0 0 (lines_in c.args.text.now) in
    let next = c.in-Some.ensures.steps ∙ ap (λ row. row ∷ outcomes_left c.next.new.self) c.in_ok-row.was in
    gathering_has_rows c.args.size c.args.text.now c.loop-row.rows.items c.in_ok-row.row (outcomes_left c.next.new.self) (subst (IsGathering all c.loop-row.rows.items) next c.loop-row.invariant) none
