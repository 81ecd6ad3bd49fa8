use Rattle.std.proofs.Common.{arith}
use Rattle.jillapun_c.proofs.RoomLemmas.{fills}
use Rattle.jillapun_c.proofs.converter.made.fill.Goals as goal

pub returns-clause-fills : goal.returns-clause-fills
returns-clause-fills g c = fills c.args.list.now c.args.room.now c.copy_from_slice.new.self c.args.at c.min-count.result _ (omega arith) c.requires c.min-count.ensures c.copy_from_slice.ensures.after
