use Rattle.std.proofs.Common.{◌≡◌, ◌∙◌, length, ap, subst}
use Rattle.std.specs.Prelude.{IfOk}
use Rattle.encoding_tables.specs.PackedRows.{flat_list}
use Rattle.encoding_tables.proofs.RowLemmas.{listed_are_rows, flat_of_listed}
use Rattle.encoding_tables.proofs.packed_index.PackedIndex.from_list.Goals as goal

pub new-requires-clause-rows : goal.new-requires-clause-rows
new-requires-clause-rows c = rw (c.deref.ensures.value ∙ c.in_ok-rows.ensures) (listed_are_rows c.args.list.now)

pub returns : goal.returns
returns c =
    let same = ap (flat_list (length c.args.list.now)) (c.deref.ensures.value ∙ c.in_ok-rows.ensures) ∙ flat_of_listed c.args.list.now in
    subst (λ list. IfOk c.new.result (λ index. index ≡ list)) same c.new.ensures
