use Rattle.std.proofs.Common.{◌≡◌, ◌⊎◌, inl, ◌∷◌, Some, replicate, ap, subst, ◌∙◌, rules, arith}
use Rattle.encoding_tables.specs.Kinds.{index_size}
use Rattle.encoding_index.specs.IndexText.{lines_in, first_fault, memory_fault}
use Rattle.encoding_index.specs.laws.Outcomes.{outcomes}
use Rattle.encoding_index.specs.laws.RowsLeft.{outcomes_left}
use Rattle.encoding_index.proofs.LoadLemmas.{IfErr-from_residual}
use Rattle.encoding_index.proofs.RowLemmas.{IsFilling, filling_starts, filling_turn, filling_stops, filling_ends}
use Rattle.encoding_index.proofs.reading.read_index.Goals as goal

pub loop-row-init : goal.loop-row-init
loop-row-init c =
    let size = index_size c.args.kind in
    let lines = lines_in c.args.text.now in
    let zeros : c.in_ok-list.list.items ≡ replicate size 0 = c.in_ok-list.ensures.items_if_clones_equal (search rules) ∙ ap (λ n. replicate n 0) c.size.ensures in
    let start : outcomes_left c.into_iter-row-iterator.result ≡ outcomes size 0 0 lines = ap outcomes_left c.into_iter-row-iterator.ensures.into_iter_gives ∙ c.new-row-items.ensures ∙ ap (λ n. outcomes n 0 0 lines) c.size-2.ensures in
    rw (zeros, start) (filling_starts size lines)

pub returns-in_err-pointer-clause-fault : goal.returns-in_err-pointer-clause-fault
returns-in_err-pointer-clause-fault c =
    let size = index_size c.args.kind in
    let all = outcomes size 0 0 (lines_in c.args.text.now) in
    let next = c.in-Some.ensures.steps ∙ ap (λ row. row ∷ outcomes_left c.next.new.self) c.in_err-pointer.was in
    let found : first_fault size c.args.text.now ≡ Some c.in_err-pointer.field-0.0 = filling_stops size c.args.text.now c.loop-row.list.items c.in_err-pointer.field-0.0 (outcomes_left c.next.new.self) (subst (IsFilling size all c.loop-row.list.items) next c.loop-row.invariant) in
    IfErr-from_residual c.from_residual-in_err-pointer.result c.in_err-pointer.field-0.0 (λ fault. (first_fault size c.args.text.now ≡ Some fault) ⊎ (fault ≡ memory_fault)) c.from_residual-in_err-pointer.ensures.1 (inl found)

pub index_mut-requires : goal.index_mut-requires
index_mut-requires c =
    let size = index_size c.args.kind in
    let all = outcomes size 0 0 (lines_in c.args.text.now) in
    let next = c.in-Some.ensures.steps ∙ ap (λ row. row ∷ outcomes_left c.next.new.self) c.in_ok-pointer.was in
    let turn = filling_turn size all c.loop-row.list.items (c.in_ok-pointer.pointer, c.in_ok-pointer.code) (outcomes_left c.next.new.self) (subst (IsFilling size all c.loop-row.list.items) next c.loop-row.invariant) in
    let sized = c.loop-row.invariant.sized in
    omega (arith, turn.0)

pub loop-row-preserved : goal.loop-row-preserved
loop-row-preserved c =
    let size = index_size c.args.kind in
    let all = outcomes size 0 0 (lines_in c.args.text.now) in
    let next = c.in-Some.ensures.steps ∙ ap (λ row. row ∷ outcomes_left c.next.new.self) c.in_ok-pointer.was in
    (filling_turn size all c.loop-row.list.items (c.in_ok-pointer.pointer, c.in_ok-pointer.code) (outcomes_left c.next.new.self) (subst (IsFilling size all c.loop-row.list.items) next c.loop-row.invariant)).1

pub returns-clause-list : goal.returns-clause-list
returns-clause-list c =
    let size = index_size c.args.kind in
    let all = outcomes size 0 0 (lines_in c.args.text.now) in
    filling_ends size c.args.text.now c.loop-row.list.items (subst (IsFilling size all c.loop-row.list.items) c.in-None.ensures.steps.0 c.loop-row.invariant)
