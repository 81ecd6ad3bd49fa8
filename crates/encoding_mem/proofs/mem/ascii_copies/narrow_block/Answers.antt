use Rattle.std.proofs.Common.{take, sym, arith}
use Rattle.std.proofs.lemmas.List.{map-id}
use Rattle.encoding_mem.proofs.PrefixLemmas.{below_run}
use Rattle.encoding_mem.proofs.UnitCopyLemmas.{lanes_fit, narrowed}
use Rattle.encoding_mem.proofs.mem.ascii_copies.narrow_block.Goals as goal

pub overflow_cast-dst : goal.overflow_cast-dst
overflow_cast-dst c =
    let us = c.args.units.now in
    lanes_fit us 32 c.requires.units (below_run us 0 32 32 0x80 c.requires.units (λ k none. absurd (omega arith)) (sym (c.all_units_below.ensures.all c.if-not-all_units_below.false)))

pub returns-clause-low : goal.returns-clause-low
returns-clause-low c = λ _.
    let us = c.args.units.now in
    below_run us 0 32 32 0x80 c.requires.units (λ k none. absurd (omega arith)) (sym (c.all_units_below.ensures.all c.if-not-all_units_below.false))

pub returns-clause-copied : goal.returns-clause-copied
returns-clause-copied c = λ _. (narrowed c.args.units.now c.args.dst.now 32 _ c.requires.units c.requires.room (map-id (take 32 c.args.units.now))).0

pub returns-clause-behind : goal.returns-clause-behind
returns-clause-behind c = (narrowed c.args.units.now c.args.dst.now 32 _ c.requires.units c.requires.room (map-id (take 32 c.args.units.now))).1
