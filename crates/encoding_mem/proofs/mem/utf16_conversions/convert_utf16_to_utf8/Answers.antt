use Rattle.std.proofs.Common.{length, arith}
use Rattle.encoding_mem.proofs.UnitPrefixLemmas.{whole_units}
use Rattle.encoding_mem.proofs.mem.utf16_conversions.convert_utf16_to_utf8.Goals as goal

pub returns-clause-text : goal.returns-clause-text
returns-clause-text c =
    let e = c.convert_utf16_to_utf8_partial-written.ensures in
    whole_units c.args.src.now _ (length c.args.dst.now) c.convert_utf16_to_utf8_partial-written.result.0 (λ k. omega (arith, c.type_inv.src k)) c.requires e.longest e.text
