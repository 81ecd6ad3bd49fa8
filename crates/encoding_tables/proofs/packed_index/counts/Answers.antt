use Rattle.std.proofs.Common.{◌∙◌, ◌≡◌, arith, ℕ}
use Rattle.std.specs.Prelude.{slice_index}
use Rattle.std.proofs.lemmas.List.{get_or_default}
use Rattle.encoding_tables.specs.calls.SortedRows.{row_at}
use Rattle.encoding_tables.proofs.CountLemmas.{one_counted, count_fits}
use Rattle.encoding_tables.proofs.packed_index.counts.Goals as goal

pub overflow_add-count : goal.overflow_add-count
overflow_add-count c =
    let own : ℕ = (row_at c.args.rows.now c.rows.at).1 in
    let read : c.index-count.result.now ≡ slice_index c.rows.counts.items own = c.index-count.ensures ∙ get_or_default c.rows.counts.items own c.index-count.result.now 0 (omega (arith, c.rows.invariant.entries c.rows.at c.rows-test.true)) in
    omega (arith, count_fits c.args.rows.now c.rows.at c.index-count.result.now c.rows.counts.items c.rows-test.true read c.rows.invariant, c.rows-test.true, c.requires.few)

pub rows-preserved : goal.rows-preserved
rows-preserved c =
    let own : ℕ = (row_at c.args.rows.now c.rows.at).1 in
    let read : c.index-count.result.now ≡ slice_index c.rows.counts.items own = c.index-count.ensures ∙ get_or_default c.rows.counts.items own c.index-count.result.now 0 (omega (arith, c.rows.invariant.entries c.rows.at c.rows-test.true)) in
    one_counted c.args.rows.now c.rows.at c.index-count.result.now c.rows.counts.items c.rows-test.true read c.rows.invariant
