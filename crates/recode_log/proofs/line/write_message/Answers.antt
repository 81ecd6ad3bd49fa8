use Rattle.std.proofs.Common.{arith}
use Rattle.recode_log.proofs.LineLemmas.{length-message-le}
use Rattle.recode_log.proofs.line.write_message.Goals as goal

pub write_row-requires : goal.write_row-requires
write_row-requires c = omega (arith, length-message-le c.args.word.now c.args.first c.args.second c.requires (omega arith) (omega arith))
