use Rattle.std.proofs.Common.{refl}
use Rattle.jillapun_c.proofs.AskedLemmas.{refused}
use Rattle.jillapun_c.proofs.convert.convert_over.Goals as goal

pub returns-in-Err : goal.returns-in-Err
returns-in-Err c = record { converts = refused _ _ _ _ _ _ _ _ _ refl c.in-Err.ensures.err; kept = λ a b. (refl, refl); nothing = λ a b. refl }
