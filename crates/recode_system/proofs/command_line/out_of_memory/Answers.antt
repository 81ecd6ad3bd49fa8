use Rattle.std.proofs.Common.{refl}
use Rattle.recode.proofs.MessageLemmas.{line_of}
use Rattle.recode_system.proofs.command_line.out_of_memory.Goals as goal

pub returns-clause-told : goal.returns-clause-told
returns-clause-told g c = (_, line_of _ refl, c.tell_log.ensures.tells)
