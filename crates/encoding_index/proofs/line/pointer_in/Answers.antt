use Rattle.std.proofs.Common.{◌≡◌, ◌+◌, ◌*◌, ◌<◌, ◌∙◌, false, true, arith, length, get_or, sym, subst, ℕ}
use Rattle.std.proofs.lemmas.List.{take_rest}
use Rattle.encoding_index.specs.IndexLine.{is_decimal_digit}
use Rattle.encoding_index.specs.laws.Digits.{HaveDigits}
use Rattle.encoding_index.proofs.DigitLemmas.{one_counted, number_counted, too_few_counted, too_many_counted, pointer_below, digit_small, digit_value_is, is_digit_by, no_digit_by}
use Rattle.encoding_index.proofs.line.pointer_in.Goals.{then-digits-test+then-count-lt8+else-is_ascii_digit, then-digits-test+else-count-lt8, else-digits-test, then-count-eq0-via-then-count-eq0, then-count-eq0-via-else-count-eq0+then-count-gt7}
use Rattle.encoding_index.proofs.line.pointer_in.Goals as goal

pub overflow_mul-pointer : goal.overflow_mul-pointer
overflow_mul-pointer c =
    let below = pointer_below 7 c.args.bytes.now c.digits.count c.digits.pointer c.digits.invariant.counted (omega (arith, c.if-count-lt8.true)) in
    omega arith

pub overflow_add-pointer : goal.overflow_add-pointer
overflow_add-pointer c =
    let b : ℕ = get_or c.args.bytes.now c.digits.count 0 in
    let digit : is_decimal_digit b ≡ true = is_digit_by b (sym c.is_ascii_digit.ensures.value ∙ c.if-is_ascii_digit.true) in
    let below = pointer_below 7 c.args.bytes.now c.digits.count c.digits.pointer c.digits.invariant.counted (omega (arith, c.if-count-lt8.true)) in
    omega (arith, digit_value_is b digit, digit_small b digit)

pub digits-preserved : goal.digits-preserved
digits-preserved c =
    let b : ℕ = get_or c.args.bytes.now c.digits.count 0 in
    let digit : is_decimal_digit b ≡ true = is_digit_by b (sym c.is_ascii_digit.ensures.value ∙ c.if-is_ascii_digit.true) in
    let counted = one_counted is_decimal_digit 10 c.args.bytes.now c.digits.count c.digits.pointer c.digits.invariant.counted c.digits-test.true digit in
    record {
      counted = subst (λ (d : ℕ). HaveDigits is_decimal_digit 10 c.args.bytes.now (c.digits.count + 1) (c.digits.pointer * 10 + d)) (sym (digit_value_is b digit)) counted;
      few = omega (arith, c.if-count-lt8.true);
    }

pub returns-then-count-eq0-clause-none : goal.returns-then-count-eq0-clause-none
returns-then-count-eq0-clause-none c = λ _. elim c.then-count-eq0.branch [
  | then-count-eq0-via-then-count-eq0 few ↦
      let ends : c.digits.count < length c.args.bytes.now → is_decimal_digit (get_or c.args.bytes.now c.digits.count 0) ≡ false = elim c.digits-test.branch [
        | then-digits-test+then-count-lt8+else-is_ascii_digit w ↦ λ _. no_digit_by (get_or c.args.bytes.now c.digits.count 0) (sym w.is_ascii_digit.ensures.value ∙ w.if-is_ascii_digit.false)
        | then-digits-test+else-count-lt8 w ↦ absurd (omega (arith, few.if-count-eq0.true, w.if-count-lt8.false))
        | else-digits-test w ↦ λ within. absurd (omega (arith, within, w.digits-test.false))
      ] in
      too_few_counted is_decimal_digit 10 1 7 c.args.bytes.now c.digits.count c.digits.pointer c.digits.invariant.counted (omega (arith, few.if-count-eq0.true)) ends
  | then-count-eq0-via-else-count-eq0+then-count-gt7 many ↦ too_many_counted is_decimal_digit 10 1 7 c.args.bytes.now c.digits.count c.digits.pointer c.digits.invariant.counted many.if-count-gt7.true
]

pub returns-clause-some : goal.returns-clause-some
returns-clause-some c =
    let ends : c.digits.count < length c.args.bytes.now → is_decimal_digit (get_or c.args.bytes.now c.digits.count 0) ≡ false = elim c.digits-test.branch [
      | then-digits-test+then-count-lt8+else-is_ascii_digit w ↦ λ _. no_digit_by (get_or c.args.bytes.now c.digits.count 0) (sym w.is_ascii_digit.ensures.value ∙ w.if-is_ascii_digit.false)
      | then-digits-test+else-count-lt8 w ↦ absurd (omega (arith, c.if-count-gt7.false, w.if-count-lt8.false))
      | else-digits-test w ↦ λ within. absurd (omega (arith, within, w.digits-test.false))
    ] in
    rw take_rest (number_counted is_decimal_digit 10 1 7 c.args.bytes.now c.digits.count c.digits.pointer c.digits.invariant.counted (omega (arith, c.if-count-eq0.false)) c.if-count-gt7.false ends)

pub returns-clause-small : goal.returns-clause-small
returns-clause-small c = pointer_below 7 c.args.bytes.now c.digits.count c.digits.pointer c.digits.invariant.counted c.if-count-gt7.false
