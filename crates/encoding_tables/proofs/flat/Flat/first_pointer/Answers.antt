use Rattle.std.proofs.Common.{◌-◌, length, drop, arith, length-drop}
use Rattle.std.proofs.lemmas.List.{take_all}
use Rattle.encoding_tables.proofs.RowLemmas.{first_found, first_missed}
use Rattle.encoding_tables.proofs.flat.Flat.first_pointer.Goals as goal

pub returns-in-len1-up-clause-pointer : goal.returns-in-len1-up-clause-pointer
returns-in-len1-up-clause-pointer c =
    first_found c.self.inside.size c.self.inside.by_pointer.now c.self.inside.by_entry.now c.rows_of-rows.result.now _ c.args.c c.args.from c.args.to c.search-below.result.0 c.args.self.now
    c.self.invariant.0 c.rows_of-rows.ensures c.search-below.ensures.rank (take_all (length c.rows_of-rows.result.now - c.search-below.result.0) (drop c.search-below.result.0 c.rows_of-rows.result.now) (omega (arith, length-drop c.search-below.result.0 c.rows_of-rows.result.now))) c.in-len1-up.len_at_least c.if-pointer-to.true c.self.view_is

pub returns-in_default-clause-pointer : goal.returns-in_default-clause-pointer
returns-in_default-clause-pointer c =
    first_missed c.self.inside.size c.self.inside.by_pointer.now c.self.inside.by_entry.now c.rows_of-rows.result.now _ c.args.c c.args.from c.args.to c.search-below.result.0 c.args.self.now
    c.self.invariant.0 c.rows_of-rows.ensures c.search-below.ensures.rank (take_all (length c.rows_of-rows.result.now - c.search-below.result.0) (drop c.search-below.result.0 c.rows_of-rows.result.now) (omega (arith, length-drop c.search-below.result.0 c.rows_of-rows.result.now))) (λ some. absurd (omega (arith, some, c.in_default.len_below))) c.self.view_is

pub returns-in_default-2-clause-pointer : goal.returns-in_default-2-clause-pointer
returns-in_default-2-clause-pointer c =
    first_missed c.self.inside.size c.self.inside.by_pointer.now c.self.inside.by_entry.now c.rows_of-rows.result.now _ c.args.c c.args.from c.args.to c.search-below.result.0 c.args.self.now
    c.self.invariant.0 c.rows_of-rows.ensures c.search-below.ensures.rank (take_all (length c.rows_of-rows.result.now - c.search-below.result.0) (drop c.search-below.result.0 c.rows_of-rows.result.now) (omega (arith, length-drop c.search-below.result.0 c.rows_of-rows.result.now))) (λ _. c.if-pointer-to.false) c.self.view_is
