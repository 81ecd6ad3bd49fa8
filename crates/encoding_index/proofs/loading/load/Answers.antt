use Rattle.std.proofs.Common.{◌≡◌, None, Ok, refl, sym, subst, ◌∙◌}
use Rattle.encoding_index.specs.IndexText.{text_rows}
use Rattle.encoding_index.specs.Loads.{text_fault}
use Rattle.encoding_index.proofs.LoadLemmas.{Follows, answers_text, answers_rows, read_rise, read_below, err_is}
use Rattle.encoding_index.specs.declared.fault.LoadFault.TheVariants.{Table}
use Rattle.encoding_index.proofs.loading.load.Goals as goal

pub returns-in_err-rows-clause-fault : goal.returns-in_err-rows-clause-fault
returns-in_err-rows-clause-fault c = answers_text c.args.tables.now c.args.kind c.args.text.now c.in_err-rows.field-0.0 c.from_residual.result c.in_err-rows.ensures.fault c.from_residual.ensures.1

pub insert-requires-clause-rise : goal.insert-requires-clause-rise
insert-requires-clause-rise c = λ _.
    let none : text_fault c.args.kind c.args.text.now ≡ None = c.in_ok-rows.ensures.rows.0 in
    let same : c.deref.result.now ≡ text_rows c.args.text.now = c.deref.ensures.value ∙ c.in_ok-rows.ensures.rows.1 in
    read_rise c.args.kind c.args.text.now c.deref.result.now none same

pub insert-requires-clause-below : goal.insert-requires-clause-below
insert-requires-clause-below c = λ listed.
    let none : text_fault c.args.kind c.args.text.now ≡ None = c.in_ok-rows.ensures.rows.0 in
    let same : c.deref.result.now ≡ text_rows c.args.text.now = c.deref.ensures.value ∙ c.in_ok-rows.ensures.rows.1 in
    read_below c.args.kind c.args.text.now c.deref.result.now none same listed

pub returns-in_err-insert-clause-fault : goal.returns-in_err-insert-clause-fault
returns-in_err-insert-clause-fault c =
    let none : text_fault c.args.kind c.args.text.now ≡ None = c.in_ok-rows.ensures.rows.0 in
    let same : c.deref.result.now ≡ text_rows c.args.text.now = c.deref.ensures.value ∙ c.in_ok-rows.ensures.rows.1 in
    let result = c.from_residual-in_err-insert.result in
    let follows = subst (λ inserted. Follows inserted result) (sym c.in_err-insert.was) (err_is result (Table c.in_err-insert.field-0.0) c.from_residual-in_err-insert.ensures.1) in
    answers_rows c.args.tables.now c.args.kind c.args.text.now c.deref.result.now c.insert.result result none same c.insert.ensures.fault follows

pub returns-clause-fault : goal.returns-clause-fault
returns-clause-fault c =
    let none : text_fault c.args.kind c.args.text.now ≡ None = c.in_ok-rows.ensures.rows.0 in
    let same : c.deref.result.now ≡ text_rows c.args.text.now = c.deref.ensures.value ∙ c.in_ok-rows.ensures.rows.1 in
    let follows = subst (λ inserted. Follows inserted (Ok tt)) (sym c.in_ok-insert.was) refl in
    answers_rows c.args.tables.now c.args.kind c.args.text.now c.deref.result.now c.insert.result (Ok tt) none same c.insert.ensures.fault follows
