use Rattle.std.proofs.Common.{◌+◌, ◌*◌, length}
use Rattle.recode_parts.proofs.JoinLemmas.{Joining}
use Rattle.recode_parts.proofs.join.join_log.Given as goal

abbrev pub invariant-log : goal.invariant-log
invariant-log g l = Joining g.R.Read.remaining g.W.Write.contents l.before.bytes l.before.characters l.initial.part l.part l.initial.whole l.whole l.held l.left

abbrev pub decreases-log : goal.decreases-log
decreases-log g l = 2 * l.left + length l.held
