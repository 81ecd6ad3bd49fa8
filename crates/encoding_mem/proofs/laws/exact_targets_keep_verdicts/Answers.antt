use Rattle.encoding_mem.specs.laws.Verdict.{keeps_exact}
use Rattle.encoding_mem.proofs.laws.exact_targets_keep_verdicts.Goals as goal

pub returns : goal.returns
returns c need e pieces coding = keeps_exact e pieces coding
