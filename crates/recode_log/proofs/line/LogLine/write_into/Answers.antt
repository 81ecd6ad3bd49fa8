use Rattle.std.proofs.Common.{arith, codes}
use Rattle.recode_log.proofs.LineLemmas.{length-row_bytes-le}
use Rattle.recode_log.proofs.line.LogLine.write_into.Goals as goal

pub write_row-requires : goal.write_row-requires
write_row-requires c =
    let valid = rw c.in-Bad.is at c.requires in
    omega (arith, length-row_bytes-le (codes "bad ") c.in-Bad.offset c.from.result (omega arith) (omega arith) (omega arith))

pub write_row-requires-in-Lost : goal.write_row-requires-in-Lost
write_row-requires-in-Lost c =
    let valid = rw c.in-Lost.is at c.requires in
    omega (arith, length-row_bytes-le (codes "lost ") c.in-Lost.index c.from-in-Lost.result (omega arith) (omega arith) (omega arith))
