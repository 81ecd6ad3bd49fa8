use Rattle.recode.proofs.PaceLemmas.{order_front, runs_on, runs_start}
use Rattle.recode.proofs.laws.steps_keep_up.Goals as goal

pub returns : goal.returns
returns g c = record { begins = runs_start; goes_on = λ a b j after h k s. runs_on a b j h k after s; prefix = order_front }
