use Rattle.encoding_tables.specs.laws.Ranges.{values_are_scalars, values_rise, pointers_are_exact, pointers_read_back}
use Rattle.encoding_tables.proofs.RowNameLemmas.{names_are_exact}
use Rattle.encoding_tables.proofs.laws.ranges.Goals as goal

pub returns : goal.returns
returns c = record { scalars = values_are_scalars; rise = values_rise; exact = pointers_are_exact; read_back = pointers_read_back; names = names_are_exact }
