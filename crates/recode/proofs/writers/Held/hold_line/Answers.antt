use Rattle.std.proofs.Common.{[], ◌∷◌, rules}
use Rattle.recode.specs.calls.Held.{item_of, log_line_of}
use Rattle.recode.proofs.WriterLemmas.{hands_after, hands_fault, holds_line, none_held}
use Rattle.recode_log.specs.laws.Counts.{counts_none}
use Rattle.recode_log.specs.laws.Told.{taken_none}
use Rattle.recode.proofs.OrderLemmas.{writes_none}
use Rattle.recode.proofs.writers.Held.hold_line.Goals as goal

pub returns-in_err-deliver_held : goal.returns-in_err-deliver_held
returns-in_err-deliver_held g c = record { hands = hands_fault (item_of (log_line_of c.args.line) ∷ []) c.from_residual.ensures.1 c.in_err-deliver_held.ensures.hands }

pub returns : goal.returns
returns g c =
    let e = c.in_ok-deliver_held.ensures in
    let none = none_held _ c.args.buffer.now e.none.bytes in
    record { hands = hands_after e.hands (search (rules, holds_line, none, counts_none, taken_none, writes_none)) }
