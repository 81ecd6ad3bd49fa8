use Rattle.std.proofs.Common.{drop, length}
use Rattle.recode.specs.Converter.{owes}
use Rattle.jillapun_c.specs.Converters.{step_view}
use Rattle.jillapun_c.proofs.ConverterRunLemmas.{RunsTo}
use Rattle.jillapun_c.proofs.converter.Converter.run.Given as goal

abbrev pub invariant-turns : goal.invariant-turns
invariant-turns l = RunsTo (step_view l.fn.self) (step_view l.self) l.last l.src l.fn.dst l.dst l.fn.losses l.losses l.progress

abbrev pub decreases-turns : goal.decreases-turns
decreases-turns l = length (owes (step_view l.self).stream (drop l.progress.read l.src))
