use Rattle.std.proofs.Common.{arith}
use Rattle.recode_places.proofs.LogLemmas.{byte_read}
use Rattle.recode_places.proofs.log_lines.LogLines.byte.Goals as goal

pub returns-then-branch-clause-read : goal.returns-then-branch-clause-read
returns-then-branch-clause-read g c =
    byte_read _ c.fill.new.self.at c.fill.new.self.len c.fill.new.self.bytes _ (c.in_ok-fill.ensures.some c.if-branch.true) (omega arith) c.in_ok-fill.ensures.left
