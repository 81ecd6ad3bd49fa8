use Rattle.encoding_front.proofs.HexadecimalLemmas.{IsPartWritten}
use Rattle.encoding_front.proofs.reference.hexadecimal_digits.Given as goal

abbrev pub invariant-digits : goal.invariant-digits
invariant-digits l = IsPartWritten l.number l.start l.rest l.buffer

abbrev pub decreases-digits : goal.decreases-digits
decreases-digits l = l.start
