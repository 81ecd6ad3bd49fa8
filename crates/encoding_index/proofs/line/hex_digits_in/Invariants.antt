use Rattle.std.proofs.Common.{length, ◌-◌, ◌≤◌}
use Rattle.encoding_index.specs.IndexLine.{is_hex_digit}
use Rattle.encoding_index.specs.laws.Digits.{HaveDigits}
use Rattle.encoding_index.proofs.line.hex_digits_in.Given as goal

abbrev pub invariant-digits : goal.invariant-digits
invariant-digits l = record { counted : HaveDigits is_hex_digit 16 l.bytes l.count l.code; few : l.count ≤ l.most }

abbrev pub decreases-digits : goal.decreases-digits
decreases-digits l = length l.bytes - l.count
