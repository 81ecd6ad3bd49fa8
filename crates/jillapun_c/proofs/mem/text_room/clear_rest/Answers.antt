use Rattle.std.proofs.Common.{◌∙◌, ap}
use Rattle.jillapun_c.specs.Room.{rest_cleared}
use Rattle.jillapun_c.proofs.TextRoomLemmas.{put_cleared, put_fits, put_prefix, text_is_put}
use Rattle.jillapun_c.proofs.mem.text_room.clear_rest.Goals as goal

pub returns-clause-prefix : goal.returns-clause-prefix
returns-clause-prefix c = put_prefix c.args.written c.args.dst.now c.clear_start.new.bytes c.requires

pub returns-clause-behind : goal.returns-clause-behind
returns-clause-behind c = put_cleared c.args.written c.args.dst.now c.clear_start.new.bytes c.requires c.clear_start.ensures

pub returns-clause-put : goal.returns-clause-put
returns-clause-put c = λ text old are was same.
    text_is_put text old _ c.args.written are (put_fits c.args.written c.args.dst.now c.clear_start.new.bytes c.requires)
    (put_prefix c.args.written c.args.dst.now c.clear_start.new.bytes c.requires ∙ was)
    (put_cleared c.args.written c.args.dst.now c.clear_start.new.bytes c.requires c.clear_start.ensures ∙ ap rest_cleared same)
