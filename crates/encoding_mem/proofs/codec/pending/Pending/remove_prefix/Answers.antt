use Rattle.std.proofs.Common.{length, ap, arith, length-take}
use Rattle.encoding_mem.proofs.DestinationLemmas.{shifted}
use Rattle.encoding_mem.proofs.codec.pending.Pending.remove_prefix.Goals as goal

pub returns : goal.returns
returns c = rw c.copy_within.ensures.after (rw (← c.self.view_is) (shifted c.self.inside.bytes c.args.n c.self.inside.len (omega (arith, c.requires, ap length c.self.view_is, length-take c.self.inside.len c.self.inside.bytes)) (omega (arith, c.self.invariant, c.self.told))))
