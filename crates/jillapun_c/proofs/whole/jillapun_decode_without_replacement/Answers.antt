use Rattle.std.proofs.Common.{refl}
use Rattle.jillapun_c.specs.HeldTables.{held_lists}
use Rattle.jillapun_c.proofs.WholeLemmas.{decodes_malformed, decodes_well_formed}
use Rattle.jillapun_c.proofs.whole.jillapun_decode_without_replacement.Goals as goal

pub returns-in-Ok-clause-decodes : goal.returns-in-Ok-clause-decodes
returns-in-Ok-clause-decodes c =
    rw c.status.ensures (decodes_well_formed (held_lists c.args.tables.tables) c.args.encoding c.args.mark c.args.src.now c.args.dst.now c.decode_input.new.dst c.decode_input.new.decoded c.in-Ok.whole c.in-Ok.ensures.decodes (c.in-Ok.ensures.lossless refl))

pub returns-in-Err-clause-decodes : goal.returns-in-Err-clause-decodes
returns-in-Err-clause-decodes c =
    decodes_malformed (held_lists c.args.tables.tables) c.args.encoding c.args.mark c.args.src.now c.args.dst.now c.decode_input.new.dst c.decode_input.new.decoded c.in-Err.status c.in-Err.ensures.decodes
