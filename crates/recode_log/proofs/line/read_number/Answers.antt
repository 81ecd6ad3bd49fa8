use Rattle.std.proofs.Common.{◌≡◌, ◌∙◌, Ok, true, ap, arith, subst, sym}
use Rattle.std.proofs.lemmas.Fmt.{IsAscii-decimal, parse-decimal}
use Rattle.std.proofs.lemmas.Grind.{common_steps}
use Rattle.std.proofs.lemmas.Str.{IsUtf8-from_ascii}
use Rattle.std.proofs.lemmas.Slice.Eq.{slice_eq-Decides}
use Rattle.std.proofs.lemmas.Bool.Decides.{Decides-eqb}
use Rattle.std.specs.Fmt.{decimal}
use Rattle.std.specs.Str.{IsUtf8}
use Rattle.recode_log.proofs.line.read_number.Goals as goal

pub returns-in_err-ok-clause-only : goal.returns-in_err-ok-clause-only
returns-in_err-ok-clause-only c = λ number small same.
    let text : IsUtf8 c.args.digits.now = subst IsUtf8 same (IsUtf8-from_ascii _ (IsAscii-decimal number small)) in
    grind (arith, common_steps)

pub returns-in_err-number-clause-only : goal.returns-in_err-number-clause-only
returns-in_err-number-clause-only c = λ number small same.
    let text : c.in_ok-ok.field-0.now ≡ c.args.digits.now = grind (arith, common_steps) in
    let read : c.parse.result ≡ Ok number = parse-decimal 64 number _ c.parse.result small small (text ∙ sym same) c.parse.ensures.value.0 in
    grind (arith, common_steps)

pub returns-clause-only : goal.returns-clause-only
returns-clause-only c = λ number small same.
    let text : c.in_ok-ok.field-0.now ≡ c.args.digits.now = grind (arith, common_steps) in
    let read : c.parse.result ≡ Ok number = parse-decimal 64 number _ c.parse.result small small (text ∙ sym same) c.parse.ensures.value.0 in
    let known : c.in_ok-number.number ≡ number = grind (arith, common_steps) in
    let equal : c.eq.result ≡ true = (slice_eq-Decides Decides-eqb _ _ _ c.eq.ensures).1
    (c.as_bytes.ensures.value ∙ c.format.ensures.text ∙ ap decimal known ∙ same) in
    grind (arith, common_steps)
