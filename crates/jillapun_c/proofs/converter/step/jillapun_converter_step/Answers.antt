use Rattle.std.proofs.Common.{◌≡◌, true}
use Rattle.jillapun_c.proofs.HeldConverterLemmas.{not_idle}
use Rattle.jillapun_c.proofs.converter.step.jillapun_converter_step.Goals as goal

pub returns-in-Err-clause-finished : goal.returns-in-Err-clause-finished
returns-in-Err-clause-finished c v holds ended = (c.in-Err.ensures.finished v holds).1

pub returns-in-Err-clause-steps : goal.returns-in-Err-clause-steps
returns-in-Err-clause-steps c v holds live = let ended : v.is_finished ≡ true = (c.in-Err.ensures.finished v holds).0 in absurd (cc)

pub returns-in-Some-clause-steps : goal.returns-in-Some-clause-steps
returns-in-Some-clause-steps c v holds live = c.go_on.ensures v holds

pub returns-in-Some-clause-unchanged : goal.returns-in-Some-clause-unchanged
returns-in-Some-clause-unchanged c idle = not_idle c.args.converter.now c.in-Ok.saved c.in-Ok.ensures.0 c.in-Ok.ensures.1 idle

pub returns-in-Some-clause-kept : goal.returns-in-Some-clause-kept
returns-in-Some-clause-kept c idle = not_idle c.args.converter.now c.in-Ok.saved c.in-Ok.ensures.0 c.in-Ok.ensures.1 idle

pub returns-in-Some-clause-nothing : goal.returns-in-Some-clause-nothing
returns-in-Some-clause-nothing c idle = not_idle c.args.converter.now c.in-Ok.saved c.in-Ok.ensures.0 c.in-Ok.ensures.1 idle

pub returns-in-None-clause-steps : goal.returns-in-None-clause-steps
returns-in-None-clause-steps c v holds live = c.go_on_without.ensures v holds

pub returns-in-None-clause-unchanged : goal.returns-in-None-clause-unchanged
returns-in-None-clause-unchanged c idle = not_idle c.args.converter.now c.in-Ok.saved c.in-Ok.ensures.0 c.in-Ok.ensures.1 idle

pub returns-in-None-clause-kept : goal.returns-in-None-clause-kept
returns-in-None-clause-kept c idle = not_idle c.args.converter.now c.in-Ok.saved c.in-Ok.ensures.0 c.in-Ok.ensures.1 idle

pub returns-in-None-clause-nothing : goal.returns-in-None-clause-nothing
returns-in-None-clause-nothing c idle = not_idle c.args.converter.now c.in-Ok.saved c.in-Ok.ensures.0 c.in-Ok.ensures.1 idle
