use Rattle.encoding_front.proofs.EncodingLemmas.{label_none, label_some}
use Rattle.encoding_front.proofs.encoding.Encoding.for_label.Goals as goal

pub returns-in_err-number : goal.returns-in_err-number
returns-in_err-number c = label_none c.args.label.now c.label_number.result c.from_residual.result c.in_err-number.was c.from_residual.ensures c.label_number.ensures.labels

pub returns : goal.returns
returns c = label_some c.args.label.now c.in_ok-number.number c.at_number.result c.at_number.ensures c.in_ok-number.ensures.labels
