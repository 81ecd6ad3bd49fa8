use Rattle.std.proofs.Common.{◌∙◌, sym, arith}
use Rattle.std.specs.Prelude.{nat_le}
use Rattle.std.proofs.lemmas.Bool.{eqb-true}
use Rattle.std.proofs.lemmas.Simd.{leading_from_mask_l}
use Rattle.encoding_mem.proofs.AsciiLemmas.{bitmask_splat_left}
use Rattle.encoding_mem.proofs.mem.first.all_bytes_below.Goals as goal
use mir.Syntax.{w8}

pub returns : goal.returns
returns c = λ none.
    let mask = bitmask_splat_left w8 nat_le 64 c.args.limit c.args.block c.fits-block.0 (omega arith) in
    leading_from_mask_l (nat_le c.args.limit) c.args.block (sym mask ∙ eqb-true _ _ none) ∙ c.fits-block.0
