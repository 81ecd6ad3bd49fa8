use Rattle.recode.proofs.InputLemmas.{kept_log, kept_output}
use Rattle.recode.proofs.laws.utf8_text_is_kept.Goals as goal

pub returns : goal.returns
returns c = record { output = kept_output; log = kept_log }
