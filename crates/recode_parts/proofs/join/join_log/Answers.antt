use Rattle.std.proofs.Common.{arith, refl}
use Rattle.recode_log.specs.laws.Told.{reads_then, taken_then, took_part}
use Rattle.recode_parts.proofs.JoinLemmas.{at_read, at_write, calls_read, calls_written, ends_in_line, joining_none, joining_read, joining_turn, joins_at_end, no_line_ends, no_log, none_moved, not_empty, on_err, read_first, so_far_cut_turn, so_far_failed, so_far_first, too_long}
use Rattle.recode_parts.proofs.join.join_log.Goals as goal

pub log-init : goal.log-init
log-init g c = joining_none _ _ _ _ _ _ _ _ c.none-held.ensures refl

pub returns-in_default-clause-err : goal.returns-in_default-clause-err
returns-in_default-clause-err g c = so_far_first _ _ _ _ _ _ _ _ c.log.invariant.so_far

pub returns-in_default-clause-calls : goal.returns-in_default-clause-calls
returns-in_default-clause-calls g c = c.log.invariant.calls

pub returns-in_default-clause-fault : goal.returns-in_default-clause-fault
returns-in_default-clause-fault g c = no_log _ _ _ _ c.lines_end_in_feeds.ensures c.lines_are_told_apart.ensures _ _ _ _ _ c.log.invariant.so_far c.as_slice.ensures c.in_default.ensures.none

pub returns-in_default-clause-part : goal.returns-in_default-clause-part
returns-in_default-clause-part g c = omega (arith, c.log.invariant.part)

pub returns-in_default-clause-whole : goal.returns-in_default-clause-whole
returns-in_default-clause-whole g c = omega (arith, c.log.invariant.whole)

pub returns-in_default-clause-part_told : goal.returns-in_default-clause-part_told
returns-in_default-clause-part_told g c = c.log.invariant.part_told

pub returns-in_default-clause-whole_told : goal.returns-in_default-clause-whole_told
returns-in_default-clause-whole_told g c = c.log.invariant.whole_told

pub returns-in_err-deliver-clause-err : goal.returns-in_err-deliver-clause-err
returns-in_err-deliver-clause-err g c = on_err _ _ (so_far_cut_turn _ _ _ _ _ _ _ _ _ _ _ _ _ c.in_err-deliver.ensures.err.0 _ c.log.invariant.so_far c.as_slice.ensures c.in-Some.ensures.lines c.in_err-deliver.ensures.err.4 (omega arith))

pub returns-in_err-deliver-clause-calls : goal.returns-in_err-deliver-clause-calls
returns-in_err-deliver-clause-calls g c = calls_written _ _ _ _ _ c.log.invariant.calls c.in_err-deliver.ensures.offers.writes

pub returns-in_err-deliver-clause-fault : goal.returns-in_err-deliver-clause-fault
returns-in_err-deliver-clause-fault g c = (at_write _ _ c.from_residual.ensures.1 c.in_err-deliver.ensures.fault).2 _ c.in_err-deliver.ensures.failed

pub returns-in_err-deliver-clause-part : goal.returns-in_err-deliver-clause-part
returns-in_err-deliver-clause-part g c = omega (arith, c.log.invariant.part, (at_write _ _ c.from_residual.ensures.1 c.in_err-deliver.ensures.fault).0)

pub returns-in_err-deliver-clause-whole : goal.returns-in_err-deliver-clause-whole
returns-in_err-deliver-clause-whole g c = omega (arith, c.log.invariant.whole, (at_write _ _ c.from_residual.ensures.1 c.in_err-deliver.ensures.fault).1, c.in_err-deliver.ensures.err.3)

pub returns-in_err-deliver-clause-part_told : goal.returns-in_err-deliver-clause-part_told
returns-in_err-deliver-clause-part_told g c = c.log.invariant.part_told

pub returns-in_err-deliver-clause-whole_told : goal.returns-in_err-deliver-clause-whole_told
returns-in_err-deliver-clause-whole_told g c = taken_then _ _ _ _ _ _ c.log.invariant.whole_told (took_part _ _ _ _ _ c.in_err-deliver.ensures.err)

pub returns-then-is_full-clause-err : goal.returns-then-is_full-clause-err
returns-then-is_full-clause-err g c = so_far_first _ _ _ _ _ _ _ _ (joining_turn _ _ _ _ _ _ _ _ _ _ c.drop_first.new.self _ _ _ _ _ _ _ c.log.invariant c.as_slice.ensures c.in-Some.ensures.lines c.in_ok-deliver.ensures.ok (omega arith) c.drop_first.ensures c.in_ok-deliver.ensures.offers).so_far

pub returns-then-is_full-clause-calls : goal.returns-then-is_full-clause-calls
returns-then-is_full-clause-calls g c = (joining_turn _ _ _ _ _ _ _ _ _ _ c.drop_first.new.self _ _ _ _ _ _ _ c.log.invariant c.as_slice.ensures c.in-Some.ensures.lines c.in_ok-deliver.ensures.ok (omega arith) c.drop_first.ensures c.in_ok-deliver.ensures.offers).calls

pub returns-then-is_full-clause-fault : goal.returns-then-is_full-clause-fault
returns-then-is_full-clause-fault g c = no_line_ends _ _ _ _ c.lines_end_in_feeds.ensures c.lines_are_told_apart.ensures _ _ _ _ (joining_turn _ _ _ _ _ _ _ _ _ _ c.drop_first.new.self _ _ _ _ _ _ _ c.log.invariant c.as_slice.ensures c.in-Some.ensures.lines c.in_ok-deliver.ensures.ok (omega arith) c.drop_first.ensures c.in_ok-deliver.ensures.offers).so_far (none_moved _ _ _ _ c.as_slice.ensures c.drop_first.ensures c.if-moved-eq0.true c.in-Some.ensures.some) (c.is_full.ensures.0 c.if-is_full.true)

pub returns-then-is_full-clause-part : goal.returns-then-is_full-clause-part
returns-then-is_full-clause-part g c = omega (arith, (joining_turn _ _ _ _ _ _ _ _ _ _ c.drop_first.new.self _ _ _ _ _ _ _ c.log.invariant c.as_slice.ensures c.in-Some.ensures.lines c.in_ok-deliver.ensures.ok (omega arith) c.drop_first.ensures c.in_ok-deliver.ensures.offers).part)

pub returns-then-is_full-clause-whole : goal.returns-then-is_full-clause-whole
returns-then-is_full-clause-whole g c = omega (arith, (joining_turn _ _ _ _ _ _ _ _ _ _ c.drop_first.new.self _ _ _ _ _ _ _ c.log.invariant c.as_slice.ensures c.in-Some.ensures.lines c.in_ok-deliver.ensures.ok (omega arith) c.drop_first.ensures c.in_ok-deliver.ensures.offers).whole)

pub returns-then-is_full-clause-part_told : goal.returns-then-is_full-clause-part_told
returns-then-is_full-clause-part_told g c = (joining_turn _ _ _ _ _ _ _ _ _ _ c.drop_first.new.self _ _ _ _ _ _ _ c.log.invariant c.as_slice.ensures c.in-Some.ensures.lines c.in_ok-deliver.ensures.ok (omega arith) c.drop_first.ensures c.in_ok-deliver.ensures.offers).part_told

pub returns-then-is_full-clause-whole_told : goal.returns-then-is_full-clause-whole_told
returns-then-is_full-clause-whole_told g c = (joining_turn _ _ _ _ _ _ _ _ _ _ c.drop_first.new.self _ _ _ _ _ _ _ c.log.invariant c.as_slice.ensures c.in-Some.ensures.lines c.in_ok-deliver.ensures.ok (omega arith) c.drop_first.ensures c.in_ok-deliver.ensures.offers).whole_told

pub returns-in_err-count-clause-err : goal.returns-in_err-count-clause-err
returns-in_err-count-clause-err g c = on_err _ _ (so_far_failed _ _ _ _ _ _ _ _ _ (joining_turn _ _ _ _ _ _ _ _ _ _ c.drop_first.new.self _ _ _ _ _ _ _ c.log.invariant c.as_slice.ensures c.in-Some.ensures.lines c.in_ok-deliver.ensures.ok (omega arith) c.drop_first.ensures c.in_ok-deliver.ensures.offers).so_far c.in_err-count.ensures.err.0)

pub returns-in_err-count-clause-calls : goal.returns-in_err-count-clause-calls
returns-in_err-count-clause-calls g c = calls_read _ _ _ _ _ (joining_turn _ _ _ _ _ _ _ _ _ _ c.drop_first.new.self _ _ _ _ _ _ _ c.log.invariant c.as_slice.ensures c.in-Some.ensures.lines c.in_ok-deliver.ensures.ok (omega arith) c.drop_first.ensures c.in_ok-deliver.ensures.offers).calls c.in_err-count.ensures.call

pub returns-in_err-count-clause-fault : goal.returns-in_err-count-clause-fault
returns-in_err-count-clause-fault g c = (at_read _ _ c.from_residual-in_err-count.ensures.1 c.in_err-count.ensures.fault).2 _ c.in_err-count.ensures.err.2

pub returns-in_err-count-clause-part : goal.returns-in_err-count-clause-part
returns-in_err-count-clause-part g c = omega (arith, (joining_turn _ _ _ _ _ _ _ _ _ _ c.drop_first.new.self _ _ _ _ _ _ _ c.log.invariant c.as_slice.ensures c.in-Some.ensures.lines c.in_ok-deliver.ensures.ok (omega arith) c.drop_first.ensures c.in_ok-deliver.ensures.offers).part, (at_read _ _ c.from_residual-in_err-count.ensures.1 c.in_err-count.ensures.fault).0, c.in_err-count.ensures.err.1)

pub returns-in_err-count-clause-whole : goal.returns-in_err-count-clause-whole
returns-in_err-count-clause-whole g c = omega (arith, (joining_turn _ _ _ _ _ _ _ _ _ _ c.drop_first.new.self _ _ _ _ _ _ _ c.log.invariant c.as_slice.ensures c.in-Some.ensures.lines c.in_ok-deliver.ensures.ok (omega arith) c.drop_first.ensures c.in_ok-deliver.ensures.offers).whole, (at_read _ _ c.from_residual-in_err-count.ensures.1 c.in_err-count.ensures.fault).1)

pub returns-in_err-count-clause-part_told : goal.returns-in_err-count-clause-part_told
returns-in_err-count-clause-part_told g c = reads_then _ _ _ _ _ _ (joining_turn _ _ _ _ _ _ _ _ _ _ c.drop_first.new.self _ _ _ _ _ _ _ c.log.invariant c.as_slice.ensures c.in-Some.ensures.lines c.in_ok-deliver.ensures.ok (omega arith) c.drop_first.ensures c.in_ok-deliver.ensures.offers).none_yet (joining_turn _ _ _ _ _ _ _ _ _ _ c.drop_first.new.self _ _ _ _ _ _ _ c.log.invariant c.as_slice.ensures c.in-Some.ensures.lines c.in_ok-deliver.ensures.ok (omega arith) c.drop_first.ensures c.in_ok-deliver.ensures.offers).part_told c.in_err-count.ensures.told

pub returns-in_err-count-clause-whole_told : goal.returns-in_err-count-clause-whole_told
returns-in_err-count-clause-whole_told g c = (joining_turn _ _ _ _ _ _ _ _ _ _ c.drop_first.new.self _ _ _ _ _ _ _ c.log.invariant c.as_slice.ensures c.in-Some.ensures.lines c.in_ok-deliver.ensures.ok (omega arith) c.drop_first.ensures c.in_ok-deliver.ensures.offers).whole_told

pub returns-then-is_empty-clause-ok : goal.returns-then-is_empty-clause-ok
returns-then-is_empty-clause-ok g c = joins_at_end _ _ _ _ _ _ _ _ _ c.in_ok-count.ensures.ok.bytes _ _ (joining_turn _ _ _ _ _ _ _ _ _ _ c.drop_first.new.self _ _ _ _ _ _ _ c.log.invariant c.as_slice.ensures c.in-Some.ensures.lines c.in_ok-deliver.ensures.ok (omega arith) c.drop_first.ensures c.in_ok-deliver.ensures.offers).so_far c.in_ok-count.ensures.ok.gave c.in_ok-count.ensures.ok.holds c.in_ok-count.ensures.ok.size c.if-count-eq0.true (c.is_empty.ensures.0 c.if-is_empty.true)

pub returns-then-is_empty-clause-calls : goal.returns-then-is_empty-clause-calls
returns-then-is_empty-clause-calls g c = calls_read _ _ _ _ _ (joining_turn _ _ _ _ _ _ _ _ _ _ c.drop_first.new.self _ _ _ _ _ _ _ c.log.invariant c.as_slice.ensures c.in-Some.ensures.lines c.in_ok-deliver.ensures.ok (omega arith) c.drop_first.ensures c.in_ok-deliver.ensures.offers).calls c.in_ok-count.ensures.call

pub returns-then-is_empty-clause-part : goal.returns-then-is_empty-clause-part
returns-then-is_empty-clause-part g c = omega (arith, (joining_turn _ _ _ _ _ _ _ _ _ _ c.drop_first.new.self _ _ _ _ _ _ _ c.log.invariant c.as_slice.ensures c.in-Some.ensures.lines c.in_ok-deliver.ensures.ok (omega arith) c.drop_first.ensures c.in_ok-deliver.ensures.offers).part, c.in_ok-count.ensures.ok.failures)

pub returns-then-is_empty-clause-whole : goal.returns-then-is_empty-clause-whole
returns-then-is_empty-clause-whole g c = omega (arith, (joining_turn _ _ _ _ _ _ _ _ _ _ c.drop_first.new.self _ _ _ _ _ _ _ c.log.invariant c.as_slice.ensures c.in-Some.ensures.lines c.in_ok-deliver.ensures.ok (omega arith) c.drop_first.ensures c.in_ok-deliver.ensures.offers).whole)

pub returns-then-is_empty-clause-part_told : goal.returns-then-is_empty-clause-part_told
returns-then-is_empty-clause-part_told g c = reads_then _ _ _ _ _ _ (joining_turn _ _ _ _ _ _ _ _ _ _ c.drop_first.new.self _ _ _ _ _ _ _ c.log.invariant c.as_slice.ensures c.in-Some.ensures.lines c.in_ok-deliver.ensures.ok (omega arith) c.drop_first.ensures c.in_ok-deliver.ensures.offers).none_yet (joining_turn _ _ _ _ _ _ _ _ _ _ c.drop_first.new.self _ _ _ _ _ _ _ c.log.invariant c.as_slice.ensures c.in-Some.ensures.lines c.in_ok-deliver.ensures.ok (omega arith) c.drop_first.ensures c.in_ok-deliver.ensures.offers).part_told c.in_ok-count.ensures.told

pub returns-then-is_empty-clause-whole_told : goal.returns-then-is_empty-clause-whole_told
returns-then-is_empty-clause-whole_told g c = (joining_turn _ _ _ _ _ _ _ _ _ _ c.drop_first.new.self _ _ _ _ _ _ _ c.log.invariant c.as_slice.ensures c.in-Some.ensures.lines c.in_ok-deliver.ensures.ok (omega arith) c.drop_first.ensures c.in_ok-deliver.ensures.offers).whole_told

pub returns-else-is_empty-clause-err : goal.returns-else-is_empty-clause-err
returns-else-is_empty-clause-err g c = read_first _ _ _ _ _ _ _ _ _ c.in_ok-count.ensures.ok.bytes _ (joining_turn _ _ _ _ _ _ _ _ _ _ c.drop_first.new.self _ _ _ _ _ _ _ c.log.invariant c.as_slice.ensures c.in-Some.ensures.lines c.in_ok-deliver.ensures.ok (omega arith) c.drop_first.ensures c.in_ok-deliver.ensures.offers).so_far c.in_ok-count.ensures.ok.gave c.in_ok-count.ensures.ok.holds

pub returns-else-is_empty-clause-fault : goal.returns-else-is_empty-clause-fault
returns-else-is_empty-clause-fault g c = ends_in_line _ _ _ _ c.lines_end_in_feeds.ensures c.lines_are_told_apart.ensures _ _ _ _ _ c.in_ok-count.ensures.ok.bytes _ _ (joining_turn _ _ _ _ _ _ _ _ _ _ c.drop_first.new.self _ _ _ _ _ _ _ c.log.invariant c.as_slice.ensures c.in-Some.ensures.lines c.in_ok-deliver.ensures.ok (omega arith) c.drop_first.ensures c.in_ok-deliver.ensures.offers).so_far (none_moved _ _ _ _ c.as_slice.ensures c.drop_first.ensures c.if-moved-eq0.true c.in-Some.ensures.some) c.in_ok-count.ensures.ok.gave c.in_ok-count.ensures.ok.holds c.in_ok-count.ensures.ok.size c.if-count-eq0.true (not_empty _ _ c.is_empty.ensures c.if-is_empty.false)

pub returns-else-is_empty-clause-calls : goal.returns-else-is_empty-clause-calls
returns-else-is_empty-clause-calls g c = calls_read _ _ _ _ _ (joining_turn _ _ _ _ _ _ _ _ _ _ c.drop_first.new.self _ _ _ _ _ _ _ c.log.invariant c.as_slice.ensures c.in-Some.ensures.lines c.in_ok-deliver.ensures.ok (omega arith) c.drop_first.ensures c.in_ok-deliver.ensures.offers).calls c.in_ok-count.ensures.call

pub returns-else-is_empty-clause-part : goal.returns-else-is_empty-clause-part
returns-else-is_empty-clause-part g c = omega (arith, (joining_turn _ _ _ _ _ _ _ _ _ _ c.drop_first.new.self _ _ _ _ _ _ _ c.log.invariant c.as_slice.ensures c.in-Some.ensures.lines c.in_ok-deliver.ensures.ok (omega arith) c.drop_first.ensures c.in_ok-deliver.ensures.offers).part, c.in_ok-count.ensures.ok.failures)

pub returns-else-is_empty-clause-whole : goal.returns-else-is_empty-clause-whole
returns-else-is_empty-clause-whole g c = omega (arith, (joining_turn _ _ _ _ _ _ _ _ _ _ c.drop_first.new.self _ _ _ _ _ _ _ c.log.invariant c.as_slice.ensures c.in-Some.ensures.lines c.in_ok-deliver.ensures.ok (omega arith) c.drop_first.ensures c.in_ok-deliver.ensures.offers).whole)

pub returns-else-is_empty-clause-part_told : goal.returns-else-is_empty-clause-part_told
returns-else-is_empty-clause-part_told g c = reads_then _ _ _ _ _ _ (joining_turn _ _ _ _ _ _ _ _ _ _ c.drop_first.new.self _ _ _ _ _ _ _ c.log.invariant c.as_slice.ensures c.in-Some.ensures.lines c.in_ok-deliver.ensures.ok (omega arith) c.drop_first.ensures c.in_ok-deliver.ensures.offers).none_yet (joining_turn _ _ _ _ _ _ _ _ _ _ c.drop_first.new.self _ _ _ _ _ _ _ c.log.invariant c.as_slice.ensures c.in-Some.ensures.lines c.in_ok-deliver.ensures.ok (omega arith) c.drop_first.ensures c.in_ok-deliver.ensures.offers).part_told c.in_ok-count.ensures.told

pub returns-else-is_empty-clause-whole_told : goal.returns-else-is_empty-clause-whole_told
returns-else-is_empty-clause-whole_told g c = (joining_turn _ _ _ _ _ _ _ _ _ _ c.drop_first.new.self _ _ _ _ _ _ _ c.log.invariant c.as_slice.ensures c.in-Some.ensures.lines c.in_ok-deliver.ensures.ok (omega arith) c.drop_first.ensures c.in_ok-deliver.ensures.offers).whole_told

pub returns-then-count-left-clause-err : goal.returns-then-count-left-clause-err
returns-then-count-left-clause-err g c = read_first _ _ _ _ _ _ _ _ _ c.in_ok-count.ensures.ok.bytes _ (joining_turn _ _ _ _ _ _ _ _ _ _ c.drop_first.new.self _ _ _ _ _ _ _ c.log.invariant c.as_slice.ensures c.in-Some.ensures.lines c.in_ok-deliver.ensures.ok (omega arith) c.drop_first.ensures c.in_ok-deliver.ensures.offers).so_far c.in_ok-count.ensures.ok.gave c.in_ok-count.ensures.ok.holds

pub returns-then-count-left-clause-fault : goal.returns-then-count-left-clause-fault
returns-then-count-left-clause-fault g c = too_long _ _ _ _ _ _ _ _ c.in_ok-count.ensures.ok.bytes _ _ (joining_turn _ _ _ _ _ _ _ _ _ _ c.drop_first.new.self _ _ _ _ _ _ _ c.log.invariant c.as_slice.ensures c.in-Some.ensures.lines c.in_ok-deliver.ensures.ok (omega arith) c.drop_first.ensures c.in_ok-deliver.ensures.offers).so_far c.in_ok-count.ensures.ok.gave c.in_ok-count.ensures.ok.size c.if-count-left.true

pub returns-then-count-left-clause-calls : goal.returns-then-count-left-clause-calls
returns-then-count-left-clause-calls g c = calls_read _ _ _ _ _ (joining_turn _ _ _ _ _ _ _ _ _ _ c.drop_first.new.self _ _ _ _ _ _ _ c.log.invariant c.as_slice.ensures c.in-Some.ensures.lines c.in_ok-deliver.ensures.ok (omega arith) c.drop_first.ensures c.in_ok-deliver.ensures.offers).calls c.in_ok-count.ensures.call

pub returns-then-count-left-clause-part : goal.returns-then-count-left-clause-part
returns-then-count-left-clause-part g c = omega (arith, (joining_turn _ _ _ _ _ _ _ _ _ _ c.drop_first.new.self _ _ _ _ _ _ _ c.log.invariant c.as_slice.ensures c.in-Some.ensures.lines c.in_ok-deliver.ensures.ok (omega arith) c.drop_first.ensures c.in_ok-deliver.ensures.offers).part, c.in_ok-count.ensures.ok.failures)

pub returns-then-count-left-clause-whole : goal.returns-then-count-left-clause-whole
returns-then-count-left-clause-whole g c = omega (arith, (joining_turn _ _ _ _ _ _ _ _ _ _ c.drop_first.new.self _ _ _ _ _ _ _ c.log.invariant c.as_slice.ensures c.in-Some.ensures.lines c.in_ok-deliver.ensures.ok (omega arith) c.drop_first.ensures c.in_ok-deliver.ensures.offers).whole)

pub returns-then-count-left-clause-part_told : goal.returns-then-count-left-clause-part_told
returns-then-count-left-clause-part_told g c = reads_then _ _ _ _ _ _ (joining_turn _ _ _ _ _ _ _ _ _ _ c.drop_first.new.self _ _ _ _ _ _ _ c.log.invariant c.as_slice.ensures c.in-Some.ensures.lines c.in_ok-deliver.ensures.ok (omega arith) c.drop_first.ensures c.in_ok-deliver.ensures.offers).none_yet (joining_turn _ _ _ _ _ _ _ _ _ _ c.drop_first.new.self _ _ _ _ _ _ _ c.log.invariant c.as_slice.ensures c.in-Some.ensures.lines c.in_ok-deliver.ensures.ok (omega arith) c.drop_first.ensures c.in_ok-deliver.ensures.offers).part_told c.in_ok-count.ensures.told

pub returns-then-count-left-clause-whole_told : goal.returns-then-count-left-clause-whole_told
returns-then-count-left-clause-whole_told g c = (joining_turn _ _ _ _ _ _ _ _ _ _ c.drop_first.new.self _ _ _ _ _ _ _ c.log.invariant c.as_slice.ensures c.in-Some.ensures.lines c.in_ok-deliver.ensures.ok (omega arith) c.drop_first.ensures c.in_ok-deliver.ensures.offers).whole_told

pub log-preserved-then-moved-eq0 : goal.log-preserved-then-moved-eq0
log-preserved-then-moved-eq0 g c = joining_read _ _ _ _ _ _ _ _ _ _ _ _ _ _ (joining_turn _ _ _ _ _ _ _ _ _ _ c.drop_first.new.self _ _ _ _ _ _ _ c.log.invariant c.as_slice.ensures c.in-Some.ensures.lines c.in_ok-deliver.ensures.ok (omega arith) c.drop_first.ensures c.in_ok-deliver.ensures.offers) c.in_ok-count.ensures.ok c.in_ok-count.ensures.call c.in_ok-count.ensures.told (omega arith) (omega arith)

pub log-preserved : goal.log-preserved
log-preserved g c = (joining_turn _ _ _ _ _ _ _ _ _ _ c.drop_first.new.self _ _ _ _ _ _ _ c.log.invariant c.as_slice.ensures c.in-Some.ensures.lines c.in_ok-deliver.ensures.ok (omega arith) c.drop_first.ensures c.in_ok-deliver.ensures.offers)
