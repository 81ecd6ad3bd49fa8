use Rattle.encoding_tables.proofs.ReplacementLemmas.{is_one_error}
use Rattle.encoding_tables.proofs.laws.replacement_is_one_error.Goals as goal

pub returns : goal.returns
returns c = is_one_error
