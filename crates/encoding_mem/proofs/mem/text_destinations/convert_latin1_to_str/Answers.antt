use Rattle.std.proofs.Common.{length, arith}
use Rattle.encoding_mem.proofs.LongestPrefixLemmas.{whole_latin1}
use Rattle.encoding_mem.proofs.mem.text_destinations.convert_latin1_to_str.Goals as goal

pub returns-clause-text : goal.returns-clause-text
returns-clause-text c =
    let f = c.convert_latin1_to_str_partial-written in
    whole_latin1 c.args.src.now _ (length c.args.dst.now) f.result.0 (λ k. omega (arith, c.type_inv.src k)) c.requires.room f.ensures.longest f.ensures.text
