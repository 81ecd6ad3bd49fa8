use Rattle.std.proofs.Common.{◌≡◌, ◌≤◌, ◌+◌, get_or, subst, arith}
use Rattle.std.specs.Prelude.{nat_le}
use Rattle.std.proofs.lemmas.Bool.{leb-true}
use Rattle.std.proofs.lemmas.Simd.{run_in_chunk_le, run_in_chunk_stops}
use Rattle.encoding_mem.proofs.PrefixLemmas.{below_run}
use Rattle.encoding_mem.proofs.UnitCopyLemmas.{stored}
use Rattle.encoding_mem.proofs.mem.ascii_copies.copy_lanes.Goals as goal

pub returns-clause-within : goal.returns-clause-within
returns-clause-within c = run_in_chunk_le (nat_le 0x80) c.args.bytes.now 0 16 c.lanes_below.result 0 c.requires.bytes c.lanes_below.ensures

pub returns-clause-low : goal.returns-clause-low
returns-clause-low c = λ k inside. below_run c.args.bytes.now 0 16 c.lanes_below.result 0x80 c.requires.bytes (λ j none. absurd (omega arith)) c.lanes_below.ensures k (omega arith)

pub returns-clause-ends : goal.returns-clause-ends
returns-clause-ends c = λ few.
    let here : 0 + c.lanes_below.result ≡ c.lanes_below.result = omega arith in
    subst (λ i. 0x80 ≤ get_or c.args.bytes.now i 0) here (leb-true _ _ (run_in_chunk_stops (nat_le 0x80) c.args.bytes.now 0 16 c.lanes_below.result 0 c.requires.bytes c.lanes_below.ensures few))

pub returns-clause-copied : goal.returns-clause-copied
returns-clause-copied c = (stored c.args.bytes.now c.args.dst.now 16 c.requires.bytes c.requires.room).0

pub returns-clause-behind : goal.returns-clause-behind
returns-clause-behind c = (stored c.args.bytes.now c.args.dst.now 16 c.requires.bytes c.requires.room).1
