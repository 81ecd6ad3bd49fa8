use Rattle.encoding_tables.proofs.KindLemmas.{file_names_differ}
use Rattle.encoding_tables.proofs.laws.file_names.Goals as goal

pub returns : goal.returns
returns c = file_names_differ
