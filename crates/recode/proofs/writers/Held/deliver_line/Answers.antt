use Rattle.std.proofs.Common.{refl, take}
use Rattle.recode.proofs.WriterLemmas.{line_part, ok_map, delivers_line}
use Rattle.recode.proofs.OrderLemmas.{log_counts, on_err_map, told_same, wrote_by_log}
use Rattle.recode_log.specs.laws.Told.{taken_by}
use Rattle.recode.proofs.writers.Held.deliver_line.Goals as goal

pub returns-clause-hands : goal.returns-clause-hands
returns-clause-hands g c = λ buffer ready.
    let held = take c.args.self.now.len buffer in
    let is = c.put_held_line-len.ensures.bytes in
    let e = c.deliver_log.ensures in
    let to = wrote_by_log _ _ e.journal in
    record {
      ok = ok_map c.deliver_log.result e.ok (λ q. delivers_line _ _ c.args.self.now.line held (to _ (rw is at q.2)));
      err = λ p any. line_part _ _ _ to c.args.self.now.line held _ _ _ is _ _ e.fault e.err;
      failures = log_counts _ _ (record { room = refl; within = ready.within; line = tt }) _ e.journal e.fault (ok_map c.deliver_log.result e.ok (λ q. q.1)) (on_err_map c.deliver_log.result e.err (λ q. q.3)) e.offers.writes e.failed;
      told = record { output = told_same g.W.Write.contents _ _ e.journal.writer; log = taken_by _ _ _ _ _ _ _ _ e.ok e.err };
    }
