use Rattle.std.proofs.Common.{sym, ◌∙◌, ap, arith, Some, subst}
use Rattle.encoding_tables.specs.IndexLists.{AreAcceptedTables}
use Rattle.encoding_tables.specs.calls.Slots.{lists_in}
use Rattle.std.proofs.Math.ListN.{set}
use Rattle.encoding_tables.specs.laws.Kinds.{put-same, put-other, put-accepted, no_fault}
use Rattle.encoding_tables.specs.laws.TableFaults.{is_index}
use Rattle.encoding_tables.proofs.KindLemmas.{size_is_small}
use Rattle.encoding_tables.proofs.tables.Tables.insert.Goals as goal

pub from_list-requires : goal.from_list-requires
from_list-requires c =
    let index = is_index c.args.kind c.args.flat.now (no_fault _ c.args.kind c.args.flat.now (sym c.fault_of_flat.ensures ∙ c.in_default.is)) in
    omega (arith, index.size, size_is_small c.args.kind)

pub returns-in-Ok-clause-taken : goal.returns-in-Ok-clause-taken
returns-in-Ok-clause-taken c = put-same c.self.inside.flats c.slot.result (Some c.in-Ok.index) c.args.kind c.slot.ensures.value (omega arith) ∙ ap Some c.in-Ok.ensures

pub returns-in-Ok-clause-others : goal.returns-in-Ok-clause-others
returns-in-Ok-clause-others c = λ k h. put-other c.self.inside.flats c.slot.result (Some c.in-Ok.index) c.args.kind k c.slot.ensures.value h ∙ ap (λ v. v.flats k) c.self.view_is

pub invariant_of-self : goal.invariant_of-self
invariant_of-self c =
    let well_formed = no_fault _ c.args.kind c.args.flat.now (sym c.fault_of_flat.ensures ∙ c.in_default.is) in
    subst (λ list. AreAcceptedTables (lists_in (set c.self.inside.flats c.slot.result (Some list)) c.self.inside.ranges)) (sym c.in-Ok.ensures)
    (put-accepted c.self.inside.flats c.self.inside.ranges c.slot.result c.args.kind c.args.flat.now c.slot.ensures.value (omega arith) well_formed c.self.invariant)
