use Rattle.recode.proofs.StatusLemmas.{says}
use Rattle.recode.proofs.laws.statuses_say_what_was_done.Goals as goal

pub returns : goal.returns
returns g c = λ holds remaining contents logged before after words status. says holds remaining contents logged before after words status
