use Rattle.std.proofs.Common.{◌≡◌, Some, None, subst, sym, rules}
use Rattle.std.specs.Char.{IsScalar}
use Rattle.encoding_tables.specs.Lookups.{value_of}
use Rattle.encoding_tables.specs.PackedRows.{flat_list}
use Rattle.encoding_tables.specs.laws.Pointers.{value_some}
use Rattle.encoding_tables.proofs.RowLemmas.{value_found}
use Rattle.encoding_tables.proofs.flat.Flat.value.Goals as goal

pub scalar_of-requires : goal.scalar_of-requires
scalar_of-requires c =
    let size = c.self.inside.size in
    let rows = c.self.inside.by_pointer.now in
    let pointer = c.args.pointer in
    let entry = c.in-Some.entry in
    let found = value_some (flat_list size rows) pointer entry (value_found size rows pointer (Some entry) c.self.invariant.0.index (rw c.in-Some.is at c.second.ensures)) in
    let scalar : IsScalar entry = rw found.0 at (c.self.invariant.1 pointer (rw found.0 found.1)) in
    search rules

pub returns-in-Some : goal.returns-in-Some
returns-in-Some c =
    let found = Some c.in-Some.entry in
    let second = rw c.in-Some.is at c.second.ensures in
    rw c.scalar_of.ensures (subst (λ list. found ≡ value_of list c.args.pointer) c.self.view_is
    (sym (value_found c.self.inside.size c.self.inside.by_pointer.now c.args.pointer found c.self.invariant.0.index second)))

pub returns-in-None : goal.returns-in-None
returns-in-None c =
    let second = rw c.in-None.is at c.second.ensures in
    subst (λ list. None ≡ value_of list c.args.pointer) c.self.view_is
    (sym (value_found c.self.inside.size c.self.inside.by_pointer.now c.args.pointer None c.self.invariant.0.index second))
