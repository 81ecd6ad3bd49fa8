use Rattle.std.proofs.Common.{sym, arith}
use Rattle.encoding_mem.proofs.PrefixLemmas.{below_run}
use Rattle.encoding_mem.proofs.UnitCopyLemmas.{stored}
use Rattle.encoding_mem.proofs.mem.ascii_copies.copy_block.Goals as goal

pub returns-clause-low : goal.returns-clause-low
returns-clause-low c = λ _.
    below_run c.args.bytes.now 0 64 64 0x80 c.requires.bytes (λ k none. absurd (omega arith)) (sym (c.all_bytes_below.ensures c.if-not-all_bytes_below.false))

pub returns-clause-copied : goal.returns-clause-copied
returns-clause-copied c = λ _. (stored c.args.bytes.now c.args.dst.now 64 c.requires.bytes c.requires.room).0

pub returns-clause-behind : goal.returns-clause-behind
returns-clause-behind c = (stored c.args.bytes.now c.args.dst.now 64 c.requires.bytes c.requires.room).1
