use Rattle.std.proofs.Common.{length, arith}
use Rattle.encoding_mem.proofs.UnitPrefixLemmas.{whole_units}
use Rattle.encoding_mem.proofs.mem.text_destinations.convert_utf16_to_str.Goals as goal

pub returns-clause-text : goal.returns-clause-text
returns-clause-text c =
    let f = c.convert_utf16_to_str_partial-written in
    whole_units c.args.src.now _ (length c.args.dst.now) f.result.0 (λ k. omega (arith, c.type_inv.src k)) c.requires.room f.ensures.longest f.ensures.text
