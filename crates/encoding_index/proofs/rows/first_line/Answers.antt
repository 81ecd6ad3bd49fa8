use Rattle.std.proofs.lemmas.List.{take_rest}
use Rattle.encoding_index.proofs.LineLemmas.{lines_first_at}
use Rattle.encoding_index.proofs.rows.first_line.Goals as goal

pub returns-then-end-text-clause-lines : goal.returns-then-end-text-clause-lines
returns-then-end-text-clause-lines c =
    rw (take_rest, c.without_carriage_return.ensures) (lines_first_at c.args.text.now c.line_len-end.result c.line_len-end.ensures c.if-end-text.true)
