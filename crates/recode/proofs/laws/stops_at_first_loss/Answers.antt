use Rattle.std.proofs.Common.{◌++◌, ◌∙◌, ap, sym}
use Rattle.encoding_mem.specs.Coding.{last_set}
use Rattle.encoding_mem.specs.declared.codec.form.EscapeState.TheVariants.{Ascii}
use Rattle.encoding_mem.specs.declared.codec.reference.Reference.TheVariants.{Decimal}
use Rattle.encoding_mem.specs.laws.EncoderCalls.{mapped_open}
use Rattle.recode.specs.Job.{target_of}
use Rattle.recode.proofs.LossLemmas.{stops_policy}
use Rattle.recode.proofs.TraceLemmas.{first_lost, log_at_loss}
use Rattle.recode.proofs.StopLemmas.{output_at_loss}
use Rattle.recode.proofs.laws.stops_at_first_loss.Goals as goal

pub returns : goal.returns
returns c = record {
  output = λ j x before rest k scalar stops is mapped none.
      let l = last_set (target_of j) Ascii before in
      output_at_loss j x before k scalar rest stops is mapped none
      ∙ ap (λ w. w ++ (target_of j).escape l ((target_of j).set l k)) (sym (mapped_open Decimal (target_of j) Ascii before mapped));
  log = log_at_loss;
  policy = λ j x i k taken h. stops_policy j x h.items i k h.last;
  fault = first_lost;
}
