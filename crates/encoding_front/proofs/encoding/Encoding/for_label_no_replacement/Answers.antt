use Rattle.std.proofs.Common.{rules, ◌≡◌, None, Some, refl, ap}
use Rattle.encoding_front.proofs.EncodingLemmas.{but_found, but_none, but_other}
use Rattle.encoding_front.specs.Encodings.{HasLabel}
use Rattle.encoding_front.specs.declared.encoding.Encoding.TheVariants.{Replacement}
use Rattle.encoding_front.proofs.encoding.Encoding.for_label_no_replacement.Goals as goal

pub returns-in_err-encoding : goal.returns-in_err-encoding
returns-in_err-encoding c = but_none c.for_label.result Replacement (λ e. HasLabel e c.args.label.now) c.for_label.ensures c.from_residual.result c.from_residual.ensures c.in_err-encoding.was

pub returns-then-eq : goal.returns-then-eq
returns-then-eq c =
    let is : c.in_ok-encoding.encoding ≡ Replacement = search rules in
    but_found (Some c.in_ok-encoding.encoding) Replacement (λ e. HasLabel e c.args.label.now) c.in_ok-encoding.ensures None refl (ap Some is)

pub returns : goal.returns
returns c =
    let other : ¬ (c.in_ok-encoding.encoding ≡ Replacement) = search rules in
    but_other (Some c.in_ok-encoding.encoding) Replacement (λ e. HasLabel e c.args.label.now) c.in_ok-encoding.ensures (λ h. other (cc))
