use Rattle.std.proofs.Common.{◌≡◌, length}
use Rattle.recode.specs.Converter.{owes}
use Rattle.jillapun_c.specs.Converters.{step_view}
use Rattle.jillapun_c.proofs.ConversionLemmas.{RunSoFar, steps_left}
use Rattle.jillapun_c.proofs.in_memory.run_job.Given as goal

abbrev pub invariant-steps : goal.invariant-steps
invariant-steps l = record {
  so_far : RunSoFar l.job l.src l.rest l.fn.dst l.dst l.fn.losses l.losses (step_view l.converter) l.progress.wants_room l.output l.records;
  size : length l.room ≡ 1024;
  count : length l.more ≡ 16;
}

abbrev pub decreases-steps : goal.decreases-steps
decreases-steps l = steps_left l.progress.wants_room (length (owes (step_view l.converter).stream l.rest))
