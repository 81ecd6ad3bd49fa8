use Rattle.recode.proofs.PaceLemmas.{log_in_order, output_in_order}
use Rattle.recode.proofs.laws.order_is_of_both.Goals as goal

pub returns : goal.returns
returns g c = record { output = output_in_order; log = log_in_order }
