use Rattle.std.proofs.Common.{length, ap, arith, length-take}
use Rattle.recode_parts.proofs.HeldLemmas.{moved_down}
use Rattle.recode_parts.proofs.held.Held.drop_first.Goals as goal

pub returns : goal.returns
returns c =
    let h = c.self.inside in
    rw c.copy_within.ensures.after (rw (← c.self.view_is) (moved_down h.bytes c.args.count h.len (omega (arith, c.requires, ap length c.self.view_is, length-take h.len h.bytes)) (omega (arith, c.self.invariant, c.self.told))))
