use Rattle.std.proofs.Common.{◌∙◌, sym, ap, arith, eqb}
use lib.Count.{count_trailing_zeros}
use mir.Syntax.{w8}
use Rattle.std.proofs.lemmas.Simd.{bitmask_splat, leading_from_mask_l, trailing_mask_l}
use Rattle.encoding_index.proofs.LineLemmas.{is_newline}
use Rattle.encoding_index.proofs.rows.lanes_before_newline.Goals as goal

pub returns-then-marks-eq0 : goal.returns-then-marks-eq0
returns-then-marks-eq0 c =
    let mask = bitmask_splat w8 eqb c.args.block 32 10 c.fits-block.0 (omega arith) in
    sym (leading_from_mask_l is_newline c.args.block (sym mask ∙ c.if-marks-eq0.true) ∙ c.fits-block.0)

pub returns-else-marks-eq0 : goal.returns-else-marks-eq0
returns-else-marks-eq0 c =
    let mask = bitmask_splat w8 eqb c.args.block 32 10 c.fits-block.0 (omega arith) in
    ap (count_trailing_zeros 64) mask
    ∙ trailing_mask_l is_newline 64 c.args.block (omega (arith, c.fits-block.0)) (omega (arith, mask, c.if-marks-eq0.false))
