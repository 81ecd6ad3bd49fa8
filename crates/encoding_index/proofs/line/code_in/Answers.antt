use Rattle.std.proofs.Common.{refl, arith, subst, ℕ}
use Rattle.std.proofs.lemmas.List.{take_rest}
use Rattle.encoding_index.specs.IndexLine.{is_hex_digit}
use Rattle.encoding_index.specs.laws.Digits.{HaveDigits}
use Rattle.encoding_index.proofs.DigitLemmas.{number_counted}
use Rattle.encoding_index.proofs.line.code_in.Goals as goal

pub returns-then-count-eq4-clause-some : goal.returns-then-count-eq4-clause-some
returns-then-count-eq4-clause-some c =
    let read = c.hex_digits_in-code in
    let counted = subst (λ (n : ℕ). HaveDigits is_hex_digit 16 c.args.bytes.now n read.result.0) c.if-count-eq4.true read.ensures.counted in
    rw take_rest (number_counted is_hex_digit 16 4 6 c.args.bytes.now 4 read.result.0 counted (omega arith) (omega arith) (λ _. rw c.if-bytes-eq9.true refl))
