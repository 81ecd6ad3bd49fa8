use Rattle.encoding_front.specs.laws.ReportedCharacter.{reports_itself, short_escape, short_form, short_open, short_output, short_reference}
use Rattle.encoding_front.proofs.laws.written_is_short.Goals as goal

pub returns : goal.returns
returns c = record {
  form = short_form;
  escape = short_escape;
  reported = reports_itself;
  reference = short_reference;
  part = short_open;
  whole = short_output;
}
