use Rattle.encoding_tables.specs.laws.Pointers.{first_is_least, last_is_greatest}
use Rattle.encoding_tables.proofs.laws.pointers.Goals as goal

pub returns : goal.returns
returns c = record { first = first_is_least; last = last_is_greatest }
