use Rattle.std.proofs.Common.{arith}
use Rattle.std.proofs.lemmas.List.{take_rest}
use Rattle.encoding_index.proofs.StartLemmas.{begins_with_row}
use Rattle.encoding_index.proofs.rows.plain_row.Goals as goal

pub returns-then-end-behind-clause-row : goal.returns-then-end-behind-clause-row
returns-then-end-behind-clause-row c =
    let begins = begins_with_row c.args.text.now c.in_ok-pointer.pointer c.in_ok-pointer.code c.in_ok-pointer.behind.now c.line_len-end.result c.in_ok-pointer.ensures.some (omega (arith, c.if-code-eq0.false)) c.if-behind-ne9.false c.line_len-end.ensures c.if-end-behind.true in
    rw take_rest begins
