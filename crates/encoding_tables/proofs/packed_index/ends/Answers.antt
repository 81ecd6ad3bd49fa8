use Rattle.std.proofs.Common.{◌∙◌, ◌≡◌, ◌<◌, ◌+◌, arith, length, refl}
use Rattle.std.specs.Prelude.{slice_index}
use Rattle.std.proofs.lemmas.List.{get_or_default, length-set}
use Rattle.encoding_tables.proofs.CountLemmas.{one_added, sum_fits}
use Rattle.encoding_tables.proofs.packed_index.ends.Goals as goal

pub overflow_add-sum : goal.overflow_add-sum
overflow_add-sum c =
    let within : c.entries.entry < length c.entries.ends.items = omega (arith, c.entries-test.true, c.len-entry-end.ensures, c.entries.invariant.1, c.in_ok-ends.ends.ok.0) in
    let read : c.index-count.result.now ≡ slice_index c.entries.ends.items c.entries.entry = c.index-count.ensures ∙ get_or_default c.entries.ends.items c.entries.entry c.index-count.result.now 0 within in
    omega (arith, sum_fits c.args.rows.now c.entries.entry c.entries.sum c.index-count.result.now c.entries.ends.items within read c.entries.invariant.0, c.requires.few)

pub entries-preserved : goal.entries-preserved
entries-preserved c =
    let within : c.entries.entry < length c.entries.ends.items = omega (arith, c.entries-test.true, c.len-entry-end.ensures, c.entries.invariant.1, c.in_ok-ends.ends.ok.0) in
    let read : c.index-count.result.now ≡ slice_index c.entries.ends.items c.entries.entry = c.index-count.ensures ∙ get_or_default c.entries.ends.items c.entries.entry c.index-count.result.now 0 within in (
      one_added c.args.rows.now c.entries.entry c.entries.sum c.index-count.result.now (c.entries.sum + c.index-count.result.now) c.entries.ends.items within read refl c.entries.invariant.0,
      length-set c.entries.ends.items c.entries.entry (c.entries.sum + c.index-count.result.now) ∙ c.entries.invariant.1,
    )
