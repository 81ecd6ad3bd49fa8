use Rattle.std.proofs.Common.{[], ◌++◌, ap, map, refl, rules, take}
use Rattle.encoding_mem.specs.Items.{Byte}
use Rattle.recode.specs.calls.Held.{line_items}
use Rattle.recode.proofs.WriterLemmas.{delivers, hands_after, hands_fault}
use Rattle.recode.proofs.OrderLemmas.{told_same, writer_counts, writer_fault, wrote_by_writer}
use Rattle.recode.proofs.TraceLemmas.{handed_on, under_bytes}
use Rattle.recode_log.specs.laws.Told.{took_part, took_whole}
use Rattle.recode.proofs.writers.Held.deliver_held.Goals as goal

pub returns-in_err-deliver_line-clause-hands : goal.returns-in_err-deliver_line-clause-hands
returns-in_err-deliver_line-clause-hands g c = hands_fault [] c.from_residual.ensures.1 (c.in_err-deliver_line.ensures.hands c.args.buffer.now c.requires.ready)

pub returns-in_err-deliver-clause-hands : goal.returns-in_err-deliver-clause-hands
returns-in_err-deliver-clause-hands g c =
    let e = c.in_ok-deliver_line.ensures in
    let k = c.in_err-deliver.ensures in
    let same = c.from_residual-in_err-deliver.ensures.1 in
    let held = take c.deliver_line.new.self.len c.args.buffer.now in
    let to = wrote_by_writer _ _ k.journal in
    hands_after (e.hands c.args.buffer.now c.requires.ready) (record {
      ok = search rules;
      err = λ p any. handed_on _ _ _ same (λ more. under_bytes _ _ _ _ held _ _ more k.fault (to _ k.err.4)
          (ap (λ line. (line_items line ++ map Byte held) ++ more) e.none));
      failures = writer_fault _ _ (search rules) _ _ same k.journal k.fault k.err.3 k.offers.writes k.failed;
      told = record { output = took_part _ _ _ _ held k.err; log = told_same g.L.Write.contents _ _ k.journal.log };
    })

pub returns-clause-hands : goal.returns-clause-hands
returns-clause-hands g c =
    let e = c.in_ok-deliver_line.ensures in
    let k = c.in_ok-deliver.ensures in
    hands_after (e.hands c.args.buffer.now c.requires.ready) (record {
      ok = rw e.none (delivers _ _ _ _ (wrote_by_writer _ _ k.journal _ k.ok.2) refl);
      err = λ p any. tt;
      failures = writer_counts _ _ (search rules) _ k.journal tt k.ok.1 tt k.offers.writes tt;
      told = record { output = took_whole _ _ _ _ _ k.ok; log = told_same g.L.Write.contents _ _ k.journal.log };
    })
