use Rattle.std.proofs.Common.{◌∙◌, ◌≤◌, arith}
use Rattle.recode_log.proofs.LineLemmas.{drop-later}
use Rattle.recode_log.proofs.line.write_row.Goals as goal

pub returns-clause-behind : goal.returns-clause-behind
returns-clause-behind c =
    let offset_le : c.put-offset_at.result ≤ c.put.result = omega arith in
    let space_le : c.put-space_at.result ≤ c.put.result = omega arith in
    let value_le : c.put-value_at.result ≤ c.put.result = omega arith in
    let end_le : c.put-end_at.result ≤ c.put.result = omega arith in
    c.put.ensures.behind
    ∙ drop-later _ _ _ _ end_le c.put-end_at.ensures.behind
    ∙ drop-later _ _ _ _ value_le c.put-value_at.ensures.behind
    ∙ drop-later _ _ _ _ space_le c.put-space_at.ensures.behind
    ∙ drop-later _ _ _ _ offset_le c.put-offset_at.ensures.behind
