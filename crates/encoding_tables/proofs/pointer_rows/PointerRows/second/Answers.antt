use Rattle.std.proofs.Common.{◌≡◌, ◌<◌, ◌+◌, ◌∙◌, arith, length, subst, Some, None, get_or}
use Rattle.encoding_tables.specs.calls.PackedLists.{IsSecond}
use Rattle.encoding_tables.specs.calls.SortedRows.{AreRising, IsDirectory, IsTight, row_at}
use Rattle.encoding_tables.proofs.SearchLemmas.{second_at_place, none_at_place}
use Rattle.encoding_tables.proofs.pointer_rows.PointerRows.second.Goals as goal

pub returns-then-below-eq1 : goal.returns-then-below-eq1
returns-then-below-eq1 c =
    let rows = c.as_slice-rows.result.now in
    let begins = c.as_slice-begins.result.now in
    let rows_is : rows ≡ c.self.inside.rows.items = c.as_slice-rows.ensures.value in
    let begins_is : begins ≡ c.self.inside.begins.items = c.as_slice-begins.ensures.value in
    let directory : IsDirectory rows begins = rw (rows_is, begins_is) c.self.invariant.1 in
    let tight : IsTight rows begins = rw (rows_is, begins_is) c.self.invariant.2 in
    let inside : c.args.first + 1 < length begins = omega (arith, c.if-first-begins.false) in
    let found = second_at_place rows c.args.first _ _ (directory.ranks c.args.first (omega (arith, inside))) (tight.stands c.args.first inside) c.search-below.ensures.rank c.if-below-eq1.true in
    subst (λ list. IsSecond list c.args.first (Some (row_at rows (get_or begins c.args.first 0)).1)) (rows_is ∙ c.self.view_is) found

pub returns-else-below-eq1 : goal.returns-else-below-eq1
returns-else-below-eq1 c =
    let rows = c.as_slice-rows.result.now in
    let begins = c.as_slice-begins.result.now in
    let rows_is : rows ≡ c.self.inside.rows.items = c.as_slice-rows.ensures.value in
    let begins_is : begins ≡ c.self.inside.begins.items = c.as_slice-begins.ensures.value in
    let rising : AreRising rows = rw rows_is c.self.invariant.0 in
    let directory : IsDirectory rows begins = rw (rows_is, begins_is) c.self.invariant.1 in
    let tight : IsTight rows begins = rw (rows_is, begins_is) c.self.invariant.2 in
    let inside : c.args.first + 1 < length begins = omega (arith, c.if-first-begins.false) in
    let none = none_at_place rows c.args.first _ _ rising (directory.ranks c.args.first (omega (arith, inside))) (tight.stands c.args.first inside) c.search-below.ensures.rank c.if-below-eq1.false in
    subst (λ list. IsSecond list c.args.first None) (rows_is ∙ c.self.view_is) none
