use Rattle.std.proofs.Common.{◌∙◌, sym, arith}
use Rattle.encoding_mem.proofs.PlainUnitsLemmas.{ascii_in_utf8}
use Rattle.encoding_mem.proofs.PrefixLemmas.{below_run}
use Rattle.encoding_mem.proofs.mem.plain_units.put_block.Goals as goal

pub returns-then-narrow_block-clause-text : goal.returns-then-narrow_block-clause-text
returns-then-narrow_block-clause-text c =
    let e = c.narrow_block.ensures in
    e.copied c.if-narrow_block.true ∙ ascii_in_utf8 c.args.units.now 32 c.requires.units (e.low c.if-narrow_block.true)

pub put_plain_block-requires-clause-plain : goal.put_plain_block-requires-clause-plain
put_plain_block-requires-clause-plain c =
    below_run c.args.units.now 0 32 32 0xD800 c.requires.units (λ k none. absurd (omega arith)) (sym (c.all_units_below.ensures.all c.if-all_units_below.true))
