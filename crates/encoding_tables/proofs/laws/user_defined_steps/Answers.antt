use Rattle.encoding_tables.specs.laws.UserDefined.{user_defined_steps}
use Rattle.encoding_tables.proofs.laws.user_defined_steps.Goals as goal

pub returns : goal.returns
returns c = user_defined_steps
