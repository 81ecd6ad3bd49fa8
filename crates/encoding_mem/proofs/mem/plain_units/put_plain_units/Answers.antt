use Rattle.std.proofs.Common.{◌≡◌, ◌≤◌, ◌∙◌, ℕ, List, ap, arith, length, take}
use Rattle.std.proofs.lemmas.List.{take_all}
use Rattle.encoding_mem.specs.Conversions.{units_in_utf8}
use Rattle.encoding_mem.proofs.PlainUnitsLemmas.{ascii_in_utf8}
use Rattle.encoding_mem.proofs.mem.plain_units.put_plain_units.Goals as goal

-- no more than a block, and no less
whole : (us : List ℕ) → length us ≤ 32 → 32 ≤ length us → take 32 us ≡ us
whole us few many = take_all 32 us (omega arith)

pub returns-then-narrow_block-clause-text : goal.returns-then-narrow_block-clause-text
returns-then-narrow_block-clause-text c =
    let us = c.args.units.now in
    let e = c.narrow_block.ensures in
    e.copied c.if-narrow_block.true ∙ ascii_in_utf8 us 32 (omega (arith, c.if-units-lt-UNIT_BLOCK.false)) (e.low c.if-narrow_block.true)
    ∙ ap units_in_utf8 (whole us c.requires.few c.if-units-lt-UNIT_BLOCK.false)

pub returns-else-narrow_block-clause-text : goal.returns-else-narrow_block-clause-text
returns-else-narrow_block-clause-text c =
    c.put_plain_block.ensures.text ∙ ap units_in_utf8 (whole c.args.units.now c.requires.few c.if-units-lt-UNIT_BLOCK.false)
