use Rattle.std.proofs.Common.{sym, ◌∙◌, ap, arith, Some, subst}
use Rattle.encoding_tables.specs.IndexLists.{AreAcceptedTables}
use Rattle.encoding_tables.specs.calls.Slots.{lists_in}
use Rattle.std.proofs.Math.ListN.{set}
use Rattle.encoding_tables.specs.laws.Kinds.{put-same, put-other, put-accepted, no_fault}
use Rattle.encoding_tables.specs.Kinds.{index_size}
use Rattle.encoding_tables.specs.PackedRows.{flat_list}
use Rattle.encoding_tables.proofs.KindLemmas.{size_is_small}
use Rattle.encoding_tables.proofs.RowFaultLemmas.{memory_is_no_fault}
use Rattle.encoding_tables.proofs.tables.Tables.insert_rows.Goals as goal

pub from_rows-requires-clause-small : goal.from_rows-requires-clause-small
from_rows-requires-clause-small c = omega (arith, c.size.ensures, size_is_small c.args.kind)

pub returns-in-Ok-clause-taken : goal.returns-in-Ok-clause-taken
returns-in-Ok-clause-taken c = put-same c.self.inside.flats c.slot.result (Some c.in-Ok.index) c.args.kind c.slot.ensures.value (omega arith) ∙ ap Some (c.in-Ok.ensures.index ∙ ap (λ n. flat_list n c.args.rows.now) c.size.ensures)

pub returns-in-Ok-clause-others : goal.returns-in-Ok-clause-others
returns-in-Ok-clause-others c = λ k h. put-other c.self.inside.flats c.slot.result (Some c.in-Ok.index) c.args.kind k c.slot.ensures.value h ∙ ap (λ v. v.flats k) c.self.view_is

pub invariant_of-self : goal.invariant_of-self
invariant_of-self c =
    let well_formed = no_fault _ c.args.kind (flat_list (index_size c.args.kind) c.args.rows.now) (sym c.fault_of_rows.ensures ∙ c.in_default.is) in
    subst (λ list. AreAcceptedTables (lists_in (set c.self.inside.flats c.slot.result (Some list)) c.self.inside.ranges)) (sym (c.in-Ok.ensures.index ∙ ap (λ n. flat_list n c.args.rows.now) c.size.ensures))
    (put-accepted c.self.inside.flats c.self.inside.ranges c.slot.result c.args.kind (flat_list (index_size c.args.kind) c.args.rows.now) c.slot.ensures.value (omega arith) well_formed c.self.invariant)

pub returns-in-Some-clause-grows : goal.returns-in-Some-clause-grows
returns-in-Some-clause-grows c = λ empty memory. memory_is_no_fault _ c.args.kind _ (sym c.fault_of_rows.ensures ∙ c.in-Some.is ∙ ap Some (cc))
