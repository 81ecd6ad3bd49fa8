use Rattle.std.proofs.Common.{None, false, refl}
use Rattle.recode.specs.calls.ConverterView.{converter_view}
use Rattle.jillapun_c.specs.declared.converter.Stage.TheVariants.{Open}
use Rattle.jillapun_c.proofs.ConverterRunLemmas.{begun}
use Rattle.jillapun_c.proofs.converter.Converter.new.Goals as goal

pub returns-clause-so_far : goal.returns-clause-so_far
returns-clause-so_far c = begun c.args.job
    (record { stream = converter_view c.new.result; held = c.none.result; loss = None; stage = Open; is_finished = false })
    (record { fresh = c.new.ensures; empty = (c.none.ensures, refl); stage = refl; open_ = refl })
