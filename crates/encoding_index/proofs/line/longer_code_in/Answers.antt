use Rattle.std.proofs.Common.{arith}
use Rattle.std.proofs.lemmas.List.{take_rest}
use Rattle.encoding_index.specs.IndexLine.{is_hex_digit}
use Rattle.encoding_index.proofs.DigitLemmas.{number_counted, too_few_counted, too_many_counted}
use Rattle.encoding_index.proofs.line.longer_code_in.Goals.{then-count-lt4-via-then-count-lt4, then-count-lt4-via-else-count-lt4+then-count-gt6}
use Rattle.encoding_index.proofs.line.longer_code_in.Goals as goal

pub returns-then-count-lt4-clause-none : goal.returns-then-count-lt4-clause-none
returns-then-count-lt4-clause-none c = λ _.
    let read = c.hex_digits_in-code in
    elim c.then-count-lt4.branch [
      | then-count-lt4-via-then-count-lt4 few ↦ too_few_counted is_hex_digit 16 4 6 c.args.bytes.now read.result.1 read.result.0 read.ensures.counted few.if-count-lt4.true (read.ensures.ends (omega (arith, few.if-count-lt4.true)))
      | then-count-lt4-via-else-count-lt4+then-count-gt6 many ↦ too_many_counted is_hex_digit 16 4 6 c.args.bytes.now read.result.1 read.result.0 read.ensures.counted many.if-count-gt6.true
    ]

pub returns-clause-some : goal.returns-clause-some
returns-clause-some c =
    let read = c.hex_digits_in-code in
    rw take_rest (number_counted is_hex_digit 16 4 6 c.args.bytes.now read.result.1 read.result.0 read.ensures.counted c.if-count-lt4.false c.if-count-gt6.false (read.ensures.ends (omega (arith, c.if-count-gt6.false))))
