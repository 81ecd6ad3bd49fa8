use Rattle.encoding_tables.specs.laws.Ranges.{have_scalars}
use Rattle.encoding_tables.proofs.tables.Tables.ranges.Goals as goal

pub returns-clause-scalars : goal.returns-clause-scalars
returns-clause-scalars c = rw (c.new.ensures) (have_scalars c.rows.result.now c.rows.ensures.taken)
