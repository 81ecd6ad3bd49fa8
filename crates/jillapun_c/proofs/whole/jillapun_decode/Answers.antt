use Rattle.jillapun_c.specs.HeldTables.{held_lists}
use Rattle.jillapun_c.specs.Room.{IsPut}
use Rattle.jillapun_c.proofs.WholeLemmas.{decodes_if_ready, decodes_not, put_there, whole_text}
use Rattle.jillapun_c.proofs.whole.jillapun_decode.Goals as goal

pub returns-in-Ok-clause-decodes : goal.returns-in-Ok-clause-decodes
returns-in-Ok-clause-decodes c =
    let h = c.in-Ok.ensures.decodes in
    rw c.status.ensures (decodes_if_ready IsPut (held_lists c.args.tables.tables) c.args.encoding c.args.mark c.args.src.now c.args.dst.now c.decode_input.new.dst c.decode_input.new.dst c.decode_input.new.decoded c.in-Ok.whole h
    (put_there _ c.args.dst.now c.decode_input.new.dst c.in-Ok.whole.filled h.made.filled))

pub returns-in-Err-clause-decodes : goal.returns-in-Err-clause-decodes
returns-in-Err-clause-decodes c =
    decodes_not IsPut (held_lists c.args.tables.tables) c.args.encoding c.args.mark c.args.src.now c.args.dst.now c.decode_input.new.dst c.decode_input.new.decoded c.in-Err.status c.in-Err.ensures.decodes

pub returns-in-Ok-clause-text : goal.returns-in-Ok-clause-text
returns-in-Ok-clause-text c verdict =
    whole_text (held_lists c.args.tables.tables) c.args.encoding c.args.mark c.args.src.now c.args.dst.now c.decode_input.new.dst c.decode_input.new.decoded c.in-Ok.whole c.in-Ok.ensures.decodes (rw c.status.ensures at verdict)
