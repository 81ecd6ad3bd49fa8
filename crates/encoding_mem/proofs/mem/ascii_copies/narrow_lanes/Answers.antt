use Rattle.std.proofs.Common.{◌≤◌, take, arith}
use Rattle.std.specs.Prelude.{not, nat_le}
use Rattle.std.proofs.lemmas.List.{map-id, length-take-le}
use Rattle.std.proofs.lemmas.List.Sums.{prefix_len-le-length}
use Rattle.encoding_mem.proofs.PrefixLemmas.{below_run}
use Rattle.encoding_mem.proofs.UnitCopyLemmas.{low_bits_fit, narrowed_run}
use Rattle.encoding_mem.proofs.mem.ascii_copies.narrow_lanes.Goals as goal

pub overflow_cast-dst : goal.overflow_cast-dst
overflow_cast-dst c = low_bits_fit c.args.units.now 8

pub returns-clause-low : goal.returns-clause-low
returns-clause-low c = λ k inside. below_run c.args.units.now 0 8 c.unit_lanes_below.result 0x80 c.requires.units (λ j none. absurd (omega arith)) c.unit_lanes_below.ensures k (omega arith)

pub returns-clause-copied : goal.returns-clause-copied
returns-clause-copied c =
    let few = prefix_len-le-length (λ u. not (nat_le 0x80 u)) (take 8 c.args.units.now) in
    let inside : c.unit_lanes_below.result ≤ 8 = omega (arith, c.unit_lanes_below.ensures, few, length-take-le 8 c.args.units.now c.requires.units) in
    (narrowed_run c.args.units.now c.args.dst.now 8 c.unit_lanes_below.result _ c.requires.units c.requires.room inside (returns-clause-low c) (map-id _)).0

pub returns-clause-behind : goal.returns-clause-behind
returns-clause-behind c = (narrowed_run c.args.units.now c.args.dst.now 8 0 _ c.requires.units c.requires.room (omega arith) (λ k none. absurd (omega arith)) (map-id _)).1
