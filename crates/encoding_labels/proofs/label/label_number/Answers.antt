use Rattle.std.proofs.Common.{◌≡◌, ◌<◌, ◌∙◌, sym}
use Rattle.encoding_labels.specs.Labels.{label_text, number_of_label, IsLabelText}
use Rattle.encoding_labels.specs.declared.places.TheConstants.{ENCODING_COUNT}
use Rattle.encoding_labels.proofs.LabelLemmas.{number_of_label-search, label_number_in-labels, number_of_label-below, number_of_label-text, if_some}
use Rattle.encoding_labels.proofs.label.label_number.Goals as goal

pub returns : goal.returns
returns c =
    let value : c.find.result ≡ number_of_label c.args.label.now =
    c.find.ensures ∙ number_of_label-search c.args.label.now c.trim-text.result.now c.rows_of_length.result.now c.trim-text.ensures
    c.rows_of_length.ensures in
    record {
      labels = λ number. (λ h. (label_number_in-labels (label_text c.args.label.now) number).0 (sym value ∙ h), λ h. value ∙ (label_number_in-labels (label_text c.args.label.now) number).1 h);
      value = value;
      below = if_some c.find.result (λ number. number < ENCODING_COUNT) (λ number h. number_of_label-below (label_text c.args.label.now) number (sym value ∙ h));
      text = if_some c.find.result (λ _. IsLabelText (label_text c.args.label.now)) (λ number h. number_of_label-text (label_text c.args.label.now) number (sym value ∙ h));
    }
