use Rattle.std.proofs.Common.{[], ◌∷◌, ◌∙◌, ap, ◌++◌, rules, take}
use Rattle.recode.specs.calls.Held.{held_line_bytes, item_of}
use Rattle.recode.proofs.WriterLemmas.{hands_after, hands_fault, lines_part, none_held, ok_map, writes_lines}
use Rattle.recode.proofs.OrderLemmas.{log_counts, on_err_map, told_same, wrote_by_log}
use Rattle.recode_log.specs.laws.Told.{taken_by}
use Rattle.recode.proofs.writers.Held.log_line.Goals as goal

pub returns-in_err-deliver_bytes-clause-hands : goal.returns-in_err-deliver_bytes-clause-hands
returns-in_err-deliver_bytes-clause-hands g c = hands_fault (item_of c.args.line ∷ []) c.from_residual.ensures.1 c.in_err-deliver_bytes.ensures.hands

pub returns-clause-hands : goal.returns-clause-hands
returns-clause-hands g c =
    let e = c.in_ok-deliver_bytes.ensures in
    let k = c.deliver_log.ensures in
    let none = none_held _ c.args.buffer.now e.none in
    let line = c.deliver_bytes.new.self.line in
    let is = c.put_all-end.ensures.prefix ∙ ap (λ x. x ++ take c.write_into-len.result c.write_into-len.new.dst) c.put_held_line-start.ensures.bytes ∙ ap (λ x. held_line_bytes line ++ x) c.write_into-len.ensures.line in
    let to = wrote_by_log _ _ k.journal in
    hands_after e.hands (record {
      ok = ok_map c.deliver_log.result k.ok (λ q. writes_lines _ _ line _ _ c.args.line none is (to _ q.2));
      err = λ p any. lines_part _ _ _ to line _ _ c.args.line _ _ none is _ _ k.fault k.err;
      failures = log_counts _ _ (search rules) _ k.journal k.fault (ok_map c.deliver_log.result k.ok (λ q. q.1)) (on_err_map c.deliver_log.result k.err (λ q. q.3)) k.offers.writes k.failed;
      told = record { output = told_same g.W.Write.contents _ _ k.journal.writer; log = taken_by _ _ _ _ _ _ _ _ k.ok k.err };
    })
