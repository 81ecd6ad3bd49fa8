use Rattle.recode.specs.laws.SavedConverters.{one_converter}
use Rattle.recode.proofs.laws.resumed_converters_go_on.Goals as goal

pub returns : goal.returns
returns c = one_converter
