use Rattle.encoding_tables.specs.laws.TableFaults.{entries_are_basic}
use Rattle.encoding_tables.proofs.tables.Tables.single_byte.Goals as goal

pub returns-clause-basic : goal.returns-clause-basic
returns-clause-basic c = entries_are_basic c.args.kind c.flat.result c.requires.single c.flat.ensures.index
