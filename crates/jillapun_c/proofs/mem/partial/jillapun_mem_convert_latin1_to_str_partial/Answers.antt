use Rattle.std.proofs.Common.{arith, take}
use Rattle.jillapun_c.proofs.TextRoomLemmas.{bytes_are_scalars, take_low}
use Rattle.jillapun_c.proofs.mem.partial.jillapun_mem_convert_latin1_to_str_partial.Goals as goal

pub returns-clause-writes : goal.returns-clause-writes
returns-clause-writes c =
    let f = c.convert_latin1_to_utf8_partial-count in
    c.clear_rest.ensures.put (take f.result.0 c.args.src.now) c.args.dst.now
    (bytes_are_scalars (take f.result.0 c.args.src.now) (take_low 256 f.result.0 c.args.src.now (omega arith) (λ k. omega (arith, c.type_inv.src k))))
    f.ensures.text f.ensures.behind
