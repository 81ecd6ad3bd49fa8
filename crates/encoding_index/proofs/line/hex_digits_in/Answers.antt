use Rattle.std.proofs.Common.{◌≡◌, ◌+◌, ◌*◌, ◌∙◌, true, arith, get_or, sym, subst, ℕ}
use Rattle.encoding_index.specs.IndexLine.{is_hex_digit}
use Rattle.encoding_index.specs.laws.Digits.{HaveDigits}
use Rattle.encoding_index.proofs.DigitLemmas.{one_counted, code_below, hex_digit_small, hex_is}
use Rattle.encoding_index.proofs.line.hex_digits_in.Goals as goal

pub overflow_mul-code : goal.overflow_mul-code
overflow_mul-code c =
    let below = code_below 6 c.args.bytes.now c.digits.count c.digits.code c.digits.invariant.counted (omega (arith, c.requires)) in
    omega arith

pub overflow_add-code : goal.overflow_add-code
overflow_add-code c =
    let b : ℕ = get_or c.args.bytes.now c.digits.count 0 in
    let hex : is_hex_digit b ≡ true = sym c.is_hex_digit.ensures ∙ c.if-is_hex_digit.true in
    let below = code_below 6 c.args.bytes.now c.digits.count c.digits.code c.digits.invariant.counted (omega (arith, c.requires)) in
    omega (arith, hex_is b c.hex_value.result c.hex_value.ensures hex, hex_digit_small b hex)

pub digits-preserved : goal.digits-preserved
digits-preserved c =
    let b : ℕ = get_or c.args.bytes.now c.digits.count 0 in
    let hex : is_hex_digit b ≡ true = sym c.is_hex_digit.ensures ∙ c.if-is_hex_digit.true in
    let counted = one_counted is_hex_digit 16 c.args.bytes.now c.digits.count c.digits.code c.digits.invariant.counted c.digits-test.true hex in
    record {
      counted = subst (λ (d : ℕ). HaveDigits is_hex_digit 16 c.args.bytes.now (c.digits.count + 1) (c.digits.code * 16 + d)) (sym (hex_is b c.hex_value.result c.hex_value.ensures hex)) counted;
      few = omega arith;
    }
