use Rattle.std.proofs.Common.{arith}
use Rattle.encoding_tables.proofs.RowLemmas.{last_found, last_missed}
use Rattle.encoding_tables.proofs.flat.Flat.last_pointer.Goals as goal

pub returns-in-len1-up-clause-pointer : goal.returns-in-len1-up-clause-pointer
returns-in-len1-up-clause-pointer c =
    last_found c.self.inside.size c.self.inside.by_pointer.now c.self.inside.by_entry.now c.rows_of-rows.result.now c.args.c c.args.from c.args.to c.search-below.result.0 c.args.self.now
    c.self.invariant.0 c.rows_of-rows.ensures c.search-below.ensures.rank c.in-len1-up.len_at_least c.if-pointer-from.true c.self.view_is

pub returns-in_default-clause-pointer : goal.returns-in_default-clause-pointer
returns-in_default-clause-pointer c =
    last_missed c.self.inside.size c.self.inside.by_pointer.now c.self.inside.by_entry.now c.rows_of-rows.result.now c.args.c c.args.from c.args.to c.search-below.result.0 c.args.self.now
    c.self.invariant.0 c.rows_of-rows.ensures c.search-below.ensures.rank (λ some. absurd (omega (arith, some, c.in_default.len_below))) c.self.view_is

pub returns-in_default-2-clause-pointer : goal.returns-in_default-2-clause-pointer
returns-in_default-2-clause-pointer c =
    last_missed c.self.inside.size c.self.inside.by_pointer.now c.self.inside.by_entry.now c.rows_of-rows.result.now c.args.c c.args.from c.args.to c.search-below.result.0 c.args.self.now
    c.self.invariant.0 c.rows_of-rows.ensures c.search-below.ensures.rank (λ _. c.if-pointer-from.false) c.self.view_is
