use Rattle.std.proofs.Common.{refl}
use Rattle.recode.proofs.MessageLemmas.{line_of}
use Rattle.recode.proofs.entry.refuse_start.Goals as goal

pub returns-in-Err-clause-told : goal.returns-in-Err-clause-told
returns-in-Err-clause-told g c = (_, line_of _ refl, c.tell_log-in-Err.ensures.tells)
