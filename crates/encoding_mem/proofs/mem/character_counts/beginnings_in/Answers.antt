use Rattle.std.proofs.Common.{◌≡◌, ◌+◌, ◌-◌, ◌∙◌, refl, sym, ap, arith}
use Rattle.std.specs.Prelude.{nat_le}
use Rattle.std.specs.Int.RustNames.{count_ones}
use mir.Syntax.{w8}
use Rattle.std.proofs.lemmas.List.Sums.{count_by-le-length}
use Rattle.std.proofs.lemmas.Simd.{ones-mask_l}
use Rattle.encoding_mem.proofs.AsciiLemmas.{bitmask_splat_left}
use Rattle.encoding_mem.proofs.CharacterLemmas.{counted_by_leads, leads_are_others}
use Rattle.encoding_mem.proofs.mem.character_counts.beginnings_in.Goals as goal

pub returns-then-others-eq0 : goal.returns-then-others-eq0
unfolding count_ones
returns-then-others-eq0 c =
    let mask = bitmask_splat_left w8 nat_le 64 0x80 c.args.block c.fits-block.0 (omega arith) in
    let none = sym (ones-mask_l (nat_le 0x80) c.args.block) ∙ ap count_ones (sym mask ∙ c.if-others-eq0.true) in
    let zero : count_ones 0 ≡ 0 = refl in
    omega (arith, none, zero, counted_by_leads c.args.block, leads_are_others c.args.block, c.fits-block.0)

pub returns : goal.returns
returns c =
    let others = ap count_ones (bitmask_splat_left w8 nat_le 64 0x80 c.args.block c.fits-block.0 (omega arith)) ∙ ones-mask_l (nat_le 0x80) c.args.block in
    let leads = ap count_ones (bitmask_splat_left w8 nat_le 64 0xC0 c.args.block c.fits-block.0 (omega arith)) ∙ ones-mask_l (nat_le 0xC0) c.args.block in
    (λ i. 64 - others i + leads i) ∙ omega (arith, counted_by_leads c.args.block, count_by-le-length (nat_le 0x80) c.args.block, c.fits-block.0)
