use Rattle.std.proofs.Common.{◌+◌, length, arith, ap}
use Rattle.std.proofs.lemmas.List.{take_rest, length-drop}
use Rattle.encoding_mem.proofs.UnitsTextLemmas.{counted, some_units}
use Rattle.encoding_mem.proofs.mem.character_counts.count_in_units.Goals as goal

pub characters-preserved : goal.characters-preserved
characters-preserved c =
    let i = c.characters.invariant in
    let units = c.args.units.now in
    let read = c.characters.read in
    let first = c.in-Some.ensures in
    let run = c.first_unit_from-run.ensures in
    let here = take_rest units read in
    let behind = take_rest units (read + c.in-Some.size) in
    let sum = counted units _ _ read _ c.in-Some.size c.first_unit_from-run.result here behind first.value run.within run.below in
    let some = some_units c.in-Some.field-0-0 in (
      omega (arith, i.0, first.within, run.within, ap length here, ap length behind, length-drop read units, length-drop (read + c.in-Some.size) units),
      omega (arith, i.1, first.size, some),
      omega (arith, i.2, sum),
    )
