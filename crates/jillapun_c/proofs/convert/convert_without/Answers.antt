use Rattle.std.proofs.Common.{subst}
use Rattle.encoding_tables.specs.IndexLists.{IndexLists}
use Rattle.jillapun_c.specs.AskedConversions.{ConvertsAsked}
use Rattle.jillapun_c.proofs.TablesLemmas.{none_are}
use Rattle.jillapun_c.proofs.convert.convert_without.Goals as goal

pub returns : goal.returns
returns c =
    let did = c.convert_over in
    subst (λ (t : IndexLists). ConvertsAsked t c.args.request c.args.src.now c.args.dst.now did.new.dst c.args.losses.now did.new.losses did.new.report did.result)
    (none_are c.new-tables.result c.new-tables.ensures.flats c.new-tables.ensures.rows) did.ensures
