use Rattle.std.proofs.Common.{◌≡◌, ◌∙◌, ap, subst, sym}
use Rattle.std.specs.Prelude.{IfOk}
use Rattle.encoding_tables.specs.PackedRows.{flat_list}
use Rattle.encoding_tables.proofs.RowLemmas.{mapped_are_all, mapped_are_rows, flat_of_mapped}
use Rattle.encoding_tables.proofs.packed_index.PackedIndex.from_rows.Goals as goal

pub new-requires-clause-rows : goal.new-requires-clause-rows
new-requires-clause-rows c = mapped_are_all c.args.size c.args.rows.now c.requires.rise c.requires.below (sym c.are_mapped.ensures ∙ c.if-are_mapped.true)

pub new-requires-2-clause-rows : goal.new-requires-2-clause-rows
new-requires-2-clause-rows c = rw (c.deref.ensures.value ∙ c.in_ok-mapped.ensures) (mapped_are_rows c.args.size c.args.rows.now c.requires.rise c.requires.below)

pub returns-clause-index : goal.returns-clause-index
returns-clause-index c =
    let same = ap (flat_list c.args.size) (c.deref.ensures.value ∙ c.in_ok-mapped.ensures) ∙ flat_of_mapped c.args.size c.args.rows.now c.requires.rise c.requires.below in
    subst (λ list. IfOk c.new-2.result (λ index. index ≡ list)) same c.new-2.ensures
