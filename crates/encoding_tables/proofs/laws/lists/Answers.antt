use Rattle.encoding_tables.specs.laws.TableFaults.{acceptance_is_exact}
use Rattle.encoding_tables.proofs.laws.lists.Goals as goal

pub returns : goal.returns
returns c = acceptance_is_exact
