use Rattle.std.proofs.Common.{◌++◌, ◌∙◌, ap, map, rules, take}
use Rattle.encoding_mem.specs.Coding.{reference_bytes}
use Rattle.encoding_mem.specs.Items.{Byte}
use Rattle.recode.proofs.WriterLemmas.{delivers_part, hands_after, hands_fault, holds, none_held, ok_map, delivers_more}
use Rattle.recode_log.specs.laws.Counts.{counts_none}
use Rattle.recode_log.specs.laws.Told.{taken_by, taken_none}
use Rattle.recode.proofs.OrderLemmas.{on_err_map, told_same, writer_counts, writes_none, wrote_by_writer}
use Rattle.recode.proofs.writers.Held.put_reference.Goals as goal

pub returns-in_err-deliver_held : goal.returns-in_err-deliver_held
returns-in_err-deliver_held g c = record { hands = hands_fault (map Byte (reference_bytes c.args.form c.args.c)) c.from_residual.ensures.1 c.in_err-deliver_held.ensures.hands }

pub returns-in_ok-deliver_held : goal.returns-in_ok-deliver_held
returns-in_ok-deliver_held g c =
    let e = c.in_ok-deliver_held.ensures in
    let none = none_held _ c.args.buffer.now e.none.bytes in
    let held = take c.deliver_held.new.self.len c.args.buffer.now in
    let is = c.write_reference-len.ensures.reference in
    let k = c.deliver.ensures in
    let to = wrote_by_writer _ _ k.journal in
    record {
      hands = hands_after e.hands (record {
        ok = ok_map c.deliver.result k.ok (λ q. delivers_more _ _ _ held held _ e.none.line none none (to _ (rw is at q.2)));
        err = λ p any. delivers_part _ _ _ to _ held _ _ _ _ e.none.line none is _ _ k.fault k.err;
        failures = writer_counts _ _ (search rules) _ k.journal k.fault (ok_map c.deliver.result k.ok (λ q. q.1)) (on_err_map c.deliver.result k.err (λ q. q.3)) k.offers.writes k.failed;
        told = record { output = taken_by _ _ _ _ _ _ _ _ k.ok k.err; log = told_same g.L.Write.contents _ _ k.journal.log };
      });
    }

pub returns-else-len-buffer : goal.returns-else-len-buffer
returns-else-len-buffer g c =
    let prefix = c.put_all-self.ensures.prefix ∙ ap (λ x. take c.args.self.now.len c.args.buffer.now ++ x) c.write_reference-len.ensures.reference in
    record { hands = search (rules, prefix, holds, counts_none, taken_none, writes_none) }
