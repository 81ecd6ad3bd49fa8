use Rattle.std.proofs.Common.{List, ℕ, arith, sym, subst}
use Rattle.encoding_tables.proofs.SearchLemmas.{IsBuilding, number_built, row_passed}
use Rattle.encoding_tables.proofs.pointer_rows.directory.Goals as goal

pub numbers-preserved : goal.numbers-preserved
numbers-preserved c =
    subst (λ (begins : List ℕ). IsBuilding c.args.rows.now begins c.rows.offset) (sym c.in_ok-push.ensures.items)
    (number_built c.args.rows.now c.numbers.begins.items c.rows.offset c.requires.rising c.requires.below c.rows-test.true c.numbers.invariant (omega (arith, c.len.ensures, c.numbers.begins.ok)))

pub rows-preserved : goal.rows-preserved
rows-preserved c = row_passed c.args.rows.now c.numbers.begins.items c.rows.offset c.numbers.invariant (omega (arith, c.len.ensures, c.numbers.begins.ok))
