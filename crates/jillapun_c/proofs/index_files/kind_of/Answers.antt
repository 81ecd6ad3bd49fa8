use Rattle.std.proofs.Common.{◌∙◌, sym, arith}
use Rattle.jillapun_c.proofs.IndexFileLemmas.{passes_kind, no_kind}
use Rattle.jillapun_c.proofs.index_files.kind_of.Goals as goal

pub loop-kind-init : goal.loop-kind-init
loop-kind-init c kind below = omega (arith, below)

pub loop-kind-preserved : goal.loop-kind-preserved
loop-kind-preserved c = passes_kind c.loop-kind.kind-index c.args.name.now c.as_bytes.result.now c.loop-kind.invariant (c.as_bytes.ensures.value ∙ c.file_name.ensures) (sym (c.eq.ensures) ∙ c.if-eq.false)

pub returns : goal.returns
returns c = no_kind c.loop-kind.kind-index c.args.name.now c.loop-kind-test.false c.loop-kind.invariant
