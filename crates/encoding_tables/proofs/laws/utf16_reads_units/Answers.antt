use Rattle.encoding_tables.proofs.Utf16Lemmas.{reads_units}
use Rattle.encoding_tables.proofs.laws.utf16_reads_units.Goals as goal

pub returns : goal.returns
returns c = reads_units
