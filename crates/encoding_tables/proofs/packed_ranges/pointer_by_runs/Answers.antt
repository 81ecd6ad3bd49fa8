use Rattle.std.proofs.Common.{◌+◌, ◌-◌, ◌∙◌, sym, ap, arith, Some}
use Rattle.encoding_tables.proofs.RangeLemmas.{runs_rise, run_within, no_pointer, one_pointer, another_pointer}
use Rattle.encoding_tables.proofs.packed_ranges.pointer_by_runs.Goals as goal

pub last_row-requires-clause-rising : goal.last_row-requires-clause-rising
last_row-requires-clause-rising c = runs_rise c.args.rows.now c.args.by_value.now c.requires

pub overflow_sub-pointer : goal.overflow_sub-pointer
overflow_sub-pointer c = (run_within c.args.rows.now c.args.by_value.now c.requires c.args.c (c.in_ok-value.value, c.in_ok-value.first) (sym c.in_ok-value.ensures)).0

pub overflow_add-pointer : goal.overflow_add-pointer
overflow_add-pointer c =
    let within = run_within c.args.rows.now c.args.by_value.now c.requires c.args.c (c.in_ok-value.value, c.in_ok-value.first) (sym c.in_ok-value.ensures) in
    omega arith

pub returns-in_err-value : goal.returns-in_err-value
returns-in_err-value c = rw c.from_residual.ensures (sym (no_pointer c.args.rows.now c.args.by_value.now c.requires c.args.c c.if-c-eq-FIXED_VALUE.false (sym c.last_row.ensures ∙ c.in_err-value.was)))

pub returns-in_err-found : goal.returns-in_err-found
returns-in_err-found c = rw c.from_residual-in_err-found.ensures
    (sym (another_pointer c.args.rows.now c.args.by_value.now c.requires c.args.c (c.in_ok-value.value, c.in_ok-value.first) c.if-c-eq-FIXED_VALUE.false (sym c.in_ok-value.ensures)
    (λ is. cc (c.in_err-found.ensures))))

pub returns-then-found-c : goal.returns-then-found-c
returns-then-found-c c = sym (one_pointer c.args.rows.now c.requires.taken c.args.c (c.in_ok-value.first + (c.args.c - c.in_ok-value.value)) c.if-c-eq-FIXED_VALUE.false
    (sym c.in_ok-found.ensures ∙ ap Some c.if-found-c.true))

pub returns-else-found-c : goal.returns-else-found-c
returns-else-found-c c =
    sym (another_pointer c.args.rows.now c.args.by_value.now c.requires c.args.c (c.in_ok-value.value, c.in_ok-value.first) c.if-c-eq-FIXED_VALUE.false (sym c.in_ok-value.ensures)
    (λ is. c.if-found-c.false (cc (c.in_ok-found.ensures))))
