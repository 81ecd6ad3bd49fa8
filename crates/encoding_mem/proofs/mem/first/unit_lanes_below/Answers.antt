use Rattle.std.proofs.Common.{◌∙◌, sym, ap, arith}
use lib.Count.{count_trailing_zeros}
use Rattle.std.specs.Prelude.{nat_le}
use Rattle.std.proofs.lemmas.Simd.{leading_from_mask_l, trailing_mask_l}
use Rattle.encoding_mem.proofs.AsciiLemmas.{bitmask_splat_left}
use Rattle.encoding_mem.proofs.mem.first.unit_lanes_below.Goals as goal
use mir.Syntax.{w16}

pub returns-then-marks-eq0 : goal.returns-then-marks-eq0
returns-then-marks-eq0 c =
    let mask = bitmask_splat_left w16 nat_le 8 c.args.limit c.args.block c.fits-block.0 (omega arith) in
    sym (leading_from_mask_l (nat_le c.args.limit) c.args.block (sym mask ∙ c.if-marks-eq0.true) ∙ c.fits-block.0)

pub returns-else-marks-eq0 : goal.returns-else-marks-eq0
returns-else-marks-eq0 c =
    let mask = bitmask_splat_left w16 nat_le 8 c.args.limit c.args.block c.fits-block.0 (omega arith) in
    ap (count_trailing_zeros 64) mask
    ∙ trailing_mask_l (nat_le c.args.limit) 64 c.args.block (omega (arith, c.fits-block.0)) (omega (arith, mask, c.if-marks-eq0.false))
