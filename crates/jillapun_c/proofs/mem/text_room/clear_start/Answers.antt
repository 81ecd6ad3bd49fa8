use Rattle.jillapun_c.proofs.TextRoomLemmas.{start_cleared}
use Rattle.jillapun_c.proofs.mem.text_room.clear_start.Goals as goal

pub returns : goal.returns
returns c = start_cleared c.args.bytes.now c.clear_behind.new.dst c.min-few.result c.min-few.ensures c.clear_behind.ensures.behind
