use Rattle.encoding_front.proofs.EncodingLemmas.{name_label}
use Rattle.encoding_front.proofs.laws.names_are_labels.Goals as goal

pub returns : goal.returns
returns c = name_label
