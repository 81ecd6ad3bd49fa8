use Rattle.encoding_tables.specs.laws.TableFaults.{is_index, entries_are_scalars}
use Rattle.encoding_tables.proofs.tables.Tables.flat.Goals as goal

pub flat-requires : goal.flat-requires
flat-requires c = entries_are_scalars c.args.kind c.index.result.now (is_index c.args.kind c.index.result.now c.index.ensures.accepted)

pub returns-clause-index : goal.returns-clause-index
returns-clause-index c = rw (c.flat.ensures) (is_index c.args.kind c.index.result.now c.index.ensures.accepted)
