use Rattle.std.proofs.Common.{◌∙◌, sym, arith}
use Rattle.std.specs.Prelude.{nat_le}
use Rattle.std.proofs.lemmas.Bool.{eq-eqb, eqb-true}
use Rattle.std.proofs.lemmas.Simd.{leading_from_mask_l}
use Rattle.encoding_mem.proofs.AsciiLemmas.{bitmask_splat_left, empty_mask}
use Rattle.encoding_mem.proofs.mem.first.all_units_below.Goals as goal
use mir.Syntax.{w16}

pub returns-clause-all : goal.returns-clause-all
returns-clause-all c = λ none.
    let mask = bitmask_splat_left w16 nat_le 32 c.args.limit c.args.block c.fits-block.0 (omega arith) in
    leading_from_mask_l (nat_le c.args.limit) c.args.block (sym mask ∙ eqb-true _ _ none) ∙ c.fits-block.0

pub returns-clause-only : goal.returns-clause-only
returns-clause-only c = λ all.
    let mask = bitmask_splat_left w16 nat_le 32 c.args.limit c.args.block c.fits-block.0 (omega arith) in
    eq-eqb _ _ (mask ∙ empty_mask (nat_le c.args.limit) c.args.block (all ∙ sym c.fits-block.0))
