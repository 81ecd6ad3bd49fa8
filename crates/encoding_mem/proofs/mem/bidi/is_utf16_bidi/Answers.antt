use Rattle.std.proofs.Common.{refl, arith}
use Rattle.encoding_mem.proofs.BidiLemmas.{units_bidi}
use Rattle.encoding_mem.proofs.mem.bidi.is_utf16_bidi.Goals as goal

pub returns : goal.returns
returns c = units_bidi c.args.units.now c.args.units.now 0 c.any_unit_bidi.result (λ k none. absurd (omega arith)) refl c.any_unit_bidi.ensures
