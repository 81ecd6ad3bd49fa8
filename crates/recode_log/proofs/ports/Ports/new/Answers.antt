use Rattle.std.proofs.Common.{◌≡◌, [], ◌++◌, map, ap, ◌∙◌, refl}
use Rattle.recode_log.specs.Journal.{AtReader, AtWriter, AtLog, reader_calls, writer_calls, log_calls}
use Rattle.recode_log.proofs.JournalLemmas.{reader_is, reader_made, writer_is, writer_made, log_is, log_made, reader_by_writer, reader_by_log, writer_by_reader, writer_by_log, log_by_reader, log_by_writer}
use Rattle.recode_log.proofs.ports.Ports.new.Goals as goal

pub invariant_of-result : goal.invariant_of-result
invariant_of-result g c =
    let hr = c.history.result.now.calls in
    let hw = c.history-2.result.now.calls in
    let hl = c.history-3.result.now.calls in
    let j0 = c.new-journal.result.entries in
    let j1 = c.and_reader-read.result.entries in
    let j2 = c.and_writer-written.result.entries in
    let j3 = c.and_log-logged.result.entries in
    let is_r : reader_calls j0 ≡ [] = ap reader_calls c.new-journal.ensures in
    let is_w : writer_calls j0 ≡ [] = ap writer_calls c.new-journal.ensures in
    let is_l : log_calls j0 ≡ [] = ap log_calls c.new-journal.ensures in
    let made_r : j1 ≡ j0 ++ map AtReader hr = reader_made j0 j1 [] hr hr refl is_r c.and_reader-read.ensures in
    let is_w1 : writer_calls j1 ≡ [] = writer_by_reader j0 j1 [] hr is_w made_r in
    let is_l1 : log_calls j1 ≡ [] = log_by_reader j0 j1 [] hr is_l made_r in
    let made_w : j2 ≡ j1 ++ map AtWriter hw = writer_made j1 j2 [] hw hw refl is_w1 c.and_writer-written.ensures in
    let is_l2 : log_calls j2 ≡ [] = log_by_writer j1 j2 [] hw is_l1 made_w in
    let made_l : j3 ≡ j2 ++ map AtLog hl = log_made j2 j3 [] hl hl refl is_l2 c.and_log-logged.ensures in
    let r1 : reader_calls j1 ≡ hr = reader_is j0 j1 [] hr hr refl is_r c.and_reader-read.ensures in
    let w2 : writer_calls j2 ≡ hw = writer_is j1 j2 [] hw hw refl is_w1 c.and_writer-written.ensures in
    record {
      of_reader = reader_by_log j2 j3 hr hl (reader_by_writer j1 j2 hr hw r1 made_w) made_l ∙ c.history.ensures;
      of_writer = writer_by_log j2 j3 hw hl w2 made_l ∙ c.history-2.ensures;
      of_log = log_is j2 j3 [] hl hl refl is_l2 c.and_log-logged.ensures ∙ c.history-3.ensures;
    }
