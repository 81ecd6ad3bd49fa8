use Rattle.std.proofs.Common.{inr, refl}
use Rattle.jillapun_c.proofs.request.Request.job.Goals as goal

pub returns-in_default-clause-err : goal.returns-in_default-clause-err
returns-in_default-clause-err c = inr (c.in_default.ensures.none, refl)
