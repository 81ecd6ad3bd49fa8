use Rattle.encoding_labels.proofs.LabelLemmas.{trims}
use Rattle.encoding_labels.proofs.label.trim.Goals as goal

pub returns : goal.returns
returns c = search trims
