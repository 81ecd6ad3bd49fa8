use Rattle.std.proofs.Common.{sym, ◌∙◌}
use Rattle.jillapun_c.proofs.DecodedLemmas.{source_by_found, source_within}
use Rattle.jillapun_c.proofs.decoded.source_of.Goals as goal

pub returns-then-takes-clause-source : goal.returns-then-takes-clause-source
returns-then-takes-clause-source c =
    let found = rw c.in-Some.is at (source_by_found c.args.mark c.args.encoding c.args.src.now c.for_bom.result c.for_bom.ensures) in
    rw (sym c.takes.ensures ∙ c.if-takes.true) at found

pub returns-then-takes-clause-within : goal.returns-then-takes-clause-within
returns-then-takes-clause-within c = source_within c.args.mark c.args.encoding c.args.src.now _ (returns-then-takes-clause-source c)

pub returns-else-takes-clause-source : goal.returns-else-takes-clause-source
returns-else-takes-clause-source c =
    let found = rw c.in-Some.is at (source_by_found c.args.mark c.args.encoding c.args.src.now c.for_bom.result c.for_bom.ensures) in
    rw (sym c.takes.ensures ∙ c.if-takes.false) at found

pub returns-in-None-clause-source : goal.returns-in-None-clause-source
returns-in-None-clause-source c = rw c.in-None.is at (source_by_found c.args.mark c.args.encoding c.args.src.now c.for_bom.result c.for_bom.ensures)
