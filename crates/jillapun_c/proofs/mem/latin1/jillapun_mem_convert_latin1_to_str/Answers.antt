use Rattle.std.proofs.Common.{arith}
use Rattle.jillapun_c.proofs.TextRoomLemmas.{bytes_are_scalars}
use Rattle.jillapun_c.proofs.mem.latin1.jillapun_mem_convert_latin1_to_str.Goals as goal

pub returns-clause-converts : goal.returns-clause-converts
returns-clause-converts c enough =
    let f = c.convert_latin1_to_utf8-written in
    c.clear_rest.ensures.put c.args.src.now c.args.dst.now (bytes_are_scalars c.args.src.now (λ k. omega (arith, c.type_inv.src k))) f.ensures.text f.ensures.behind
