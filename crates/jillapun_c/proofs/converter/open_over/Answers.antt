use Rattle.std.proofs.Common.{◌≡◌, refl, sym}
use Rattle.jillapun_c.specs.HeldTables.{held_lists}
use Rattle.recode.specs.declared.job.Job.{Job}
use Rattle.jillapun_c.specs.ConverterCalls.{HoldsNewConverter}
use Rattle.jillapun_c.specs.Converters.{step_view}
use Rattle.jillapun_c.proofs.AskedLemmas.{goes_on, refused}
use Rattle.jillapun_c.proofs.converter.open_over.Goals as goal

pub returns-in-Err-clause-opens : goal.returns-in-Err-clause-opens
returns-in-Err-clause-opens c = refused _ _ _ _ _ _ _ _ _ (sym c.requires) c.in-Err.ensures.err

pub returns-in-Ok-clause-opens : goal.returns-in-Ok-clause-opens
returns-in-Ok-clause-opens c =
    goes_on (held_lists c.args.tables.tables) c.args.lent.now c.args.request.from c.args.request.to c.args.request.mark c.args.request.policy c.args.request.limit 0 c.in-Ok.job (λ (job : Job). (0 ≡ 0) × HoldsNewConverter job c.keep.new.self)
    (sym c.requires) c.in-Ok.ensures.ok
    (refl, record { converter = step_view c.new.result; holds = c.keep.ensures; is_new = c.new.ensures.is_new; so_far = c.new.ensures.so_far })
