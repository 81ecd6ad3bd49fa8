use Rattle.std.proofs.Common.{sym, arith}
use Rattle.encoding_tables.specs.Kinds.{index_size}
use Rattle.encoding_tables.proofs.RowFaultLemmas.{reserved_row, no_reserved_row}
use Rattle.encoding_tables.proofs.accept.first_reserved_row.Goals as goal

pub returns-then-at-lt-RESERVED_END : goal.returns-then-at-lt-RESERVED_END
returns-then-at-lt-RESERVED_END c = sym (reserved_row (index_size c.args.kind) c.args.rows.now c.loop-pointer.pointer-index c.requires.rise c.requires.below c.loop-pointer-test.true
    c.if-entry-ne0.true c.if-at-ge-RESERVED_START.true c.if-at-lt-RESERVED_END.true c.loop-pointer.invariant)

pub returns : goal.returns
returns c = sym (no_reserved_row (index_size c.args.kind) c.args.rows.now (λ j within some low. c.loop-pointer.invariant j (omega (arith, c.loop-pointer-test.false)) some low))
