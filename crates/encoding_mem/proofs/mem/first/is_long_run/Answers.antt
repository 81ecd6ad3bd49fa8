use Rattle.std.proofs.Common.{◌∙◌, ◌≡◌, sym, arith}
use Rattle.std.proofs.lemmas.Bool.{eqb-true}
use Rattle.encoding_mem.proofs.PrefixLemmas.{below_run}
use Rattle.encoding_mem.proofs.mem.first.is_long_run.Goals as goal

pub returns-then-bytes-ge-BYTE_LANES-clause-ascii : goal.returns-then-bytes-ge-BYTE_LANES-clause-ascii
returns-then-bytes-ge-BYTE_LANES-clause-ascii c = λ all k inside.
    let run : c.lanes_below.result ≡ 16 = eqb-true _ _ all in
    below_run c.args.bytes.now 0 16 16 0x80 (omega (arith, c.if-bytes-ge-BYTE_LANES.true)) (λ j none. absurd (omega arith)) (sym run ∙ c.lanes_below.ensures) k inside
