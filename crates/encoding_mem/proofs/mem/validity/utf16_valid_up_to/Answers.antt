use Rattle.std.proofs.Common.{arith, refl}
use Rattle.encoding_mem.proofs.Utf16Lemmas.{up_to_lone}
use Rattle.encoding_mem.proofs.mem.validity.utf16_valid_up_to.Goals as goal

pub returns-else-not-is_lone_surrogate : goal.returns-else-not-is_lone_surrogate
returns-else-not-is_lone_surrogate c = up_to_lone c.args.units.now c.units.at (omega arith) c.units.invariant.none (λ _. c.if-not-is_lone_surrogate.ensures.0 refl)

pub returns-after-units : goal.returns-after-units
returns-after-units c = up_to_lone c.args.units.now c.units.at (omega arith) c.units.invariant.none (λ more. absurd (omega arith))
