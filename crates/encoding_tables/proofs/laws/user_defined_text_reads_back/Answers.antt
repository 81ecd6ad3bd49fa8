use Rattle.encoding_tables.specs.laws.UserDefined.{user_defined_exact}
use Rattle.encoding_tables.proofs.laws.user_defined_text_reads_back.Goals as goal

pub returns : goal.returns
returns c = user_defined_exact
