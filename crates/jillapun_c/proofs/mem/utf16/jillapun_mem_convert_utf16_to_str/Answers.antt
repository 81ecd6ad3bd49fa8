use Rattle.std.proofs.Common.{arith}
use Rattle.std.specs.Char.Utf16.{utf16_lossy_chars}
use Rattle.jillapun_c.proofs.TextRoomLemmas.{units_are_scalars}
use Rattle.jillapun_c.proofs.mem.utf16.jillapun_mem_convert_utf16_to_str.Goals as goal

pub returns-clause-converts : goal.returns-clause-converts
returns-clause-converts c enough =
    let f = c.convert_utf16_to_utf8-written in
    c.clear_rest.ensures.put (utf16_lossy_chars c.args.src.now) c.args.dst.now (units_are_scalars c.args.src.now (λ k. omega (arith, c.type_inv.src k))) f.ensures.text f.ensures.behind
