use Rattle.jillapun_c.proofs.WholeLemmas.{not_left, nothing_left}
use Rattle.jillapun_c.proofs.whole.decoding.is_all.Goals as goal

pub returns-in-Some : goal.returns-in-Some
returns-in-Some c all made is_left = nothing_left all made c.in-Some.bytes.now c.is_empty.result c.is_empty.ensures (rw c.in-Some.is at is_left)

pub returns-in-None : goal.returns-in-None
returns-in-None c all made is_left = not_left all made (rw c.in-None.is at is_left)
