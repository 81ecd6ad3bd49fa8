use Rattle.encoding_front.proofs.HexadecimalLemmas.{nothing_written, one_more}
use Rattle.encoding_front.proofs.reference.hexadecimal_digits.Goals as goal

pub digits-init : goal.digits-init
digits-init c = nothing_written _ _ c.told-buffer c.requires

pub digits-preserved : goal.digits-preserved
digits-preserved c = one_more _ _ _ _ _ c.digits.invariant c.if-rest-eq0.false c.hexadecimal_digit.ensures
