use Rattle.std.proofs.Common.{◌<◌, take, arith, length-take}
use Rattle.std.proofs.lemmas.List.{get_or-take}
use Rattle.encoding_mem.proofs.AsciiLemmas.{behind_ascii}
use Rattle.encoding_mem.proofs.codec.source.narrow_ascii.Goals as goal

pub returns-clause-longest : goal.returns-clause-longest
returns-clause-longest c = λ within fits.
    let n = c.copy_basic_latin_to_ascii.result in
    let end = c.min-end.result in
    let inside : n < end = omega (arith, c.min-end.ensures) in
    let high = behind_ascii (take end c.args.units.now) n c.copy_basic_latin_to_ascii.ensures.prefix (omega (arith, length-take end c.args.units.now, c.min-end.ensures)) in
    omega (arith, high, get_or-take end c.args.units.now n 0 inside)
