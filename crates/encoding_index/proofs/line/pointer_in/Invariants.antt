use Rattle.std.proofs.Common.{length, ◌-◌, ◌≤◌}
use Rattle.encoding_index.specs.IndexLine.{is_decimal_digit}
use Rattle.encoding_index.specs.laws.Digits.{HaveDigits}
use Rattle.encoding_index.proofs.line.pointer_in.Given as goal

abbrev pub invariant-digits : goal.invariant-digits
invariant-digits l = record { counted : HaveDigits is_decimal_digit 10 l.bytes l.count l.pointer; few : l.count ≤ 8 }

abbrev pub decreases-digits : goal.decreases-digits
decreases-digits l = length l.bytes - l.count
