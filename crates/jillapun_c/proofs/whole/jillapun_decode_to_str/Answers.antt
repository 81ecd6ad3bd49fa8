use Rattle.encoding_mem.specs.Piece.{text}
use Rattle.jillapun_c.specs.HeldTables.{held_lists}
use Rattle.jillapun_c.specs.Room.{TextIsPut}
use Rattle.jillapun_c.proofs.WholeLemmas.{decodes_if_ready, decodes_not, put_scalars}
use Rattle.jillapun_c.proofs.whole.jillapun_decode_to_str.Goals as goal

pub returns-in-Ok-clause-decodes : goal.returns-in-Ok-clause-decodes
returns-in-Ok-clause-decodes c =
    let t = held_lists c.args.tables.tables in
    let h = c.in-Ok.ensures.decodes in
    let put = c.clear_rest.ensures.put (text h.made.front) c.args.dst.now (put_scalars t c.args.encoding c.args.mark c.args.src.now c.args.dst.now c.decode_input.new.dst c.decode_input.new.decoded c.in-Ok.whole h) h.made.is h.made.filled.behind in
    rw c.status.ensures (decodes_if_ready TextIsPut t c.args.encoding c.args.mark c.args.src.now c.args.dst.now c.decode_input.new.dst c.clear_rest.new.dst c.decode_input.new.decoded c.in-Ok.whole h (rw h.made.is put))

pub returns-in-Err-clause-decodes : goal.returns-in-Err-clause-decodes
returns-in-Err-clause-decodes c =
    decodes_not TextIsPut (held_lists c.args.tables.tables) c.args.encoding c.args.mark c.args.src.now c.args.dst.now c.decode_input.new.dst c.decode_input.new.decoded c.in-Err.status c.in-Err.ensures.decodes
