use Rattle.std.proofs.Common.{arith}
use Rattle.encoding_mem.proofs.Latin1WritingLemmas.{high_put}
use Rattle.encoding_mem.proofs.mem.latin1_conversions.put_two_bytes.Goals as goal

pub returns : goal.returns
returns c = high_put c.args.byte c.args.dst.now c.requires.high (omega (arith, c.ranges.byte)) c.requires.room
