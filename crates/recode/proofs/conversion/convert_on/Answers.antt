use Rattle.std.proofs.Common.{refl, sym, ◌∙◌}
use Rattle.recode.proofs.OrderLemmas.{same_then}
use Rattle.recode.proofs.PaceLemmas.{runs_flushed, runs_told}
use Rattle.recode.proofs.StepLemmas.{conversion_err, conversion_of, conversion_ok, converts_of, faults_of}
use Rattle.recode.proofs.TellLemmas.{tells_by_log, tells_by_writer}
use Rattle.recode.proofs.conversion.convert_on.Goals as goal

pub returns-then-report-clause-conversion : goal.returns-then-report-clause-conversion
returns-then-report-clause-conversion g c =
    let a = c.run_on-answer.ensures in
    let w = c.flush-writer_failed.ensures in
    let l = c.flush_log-log_failed.ensures in
    conversion_of (conversion_ok c.args.ports.now c.run_on-answer.new.ports c.flush-writer_failed.new.ports c.flush_log-log_failed.new.ports c.args.job _ c.run_on-answer.result _ _ (record { completes = a.completes; fails = a.fails; counts = a.failures }) a.calls w.journal w.flushed l.journal l.flushed
    _ _ (sym c.in-Ok.is ∙ c.after_flushes.ensures) (rw c.if-report.true refl))

pub returns-else-report-clause-conversion : goal.returns-else-report-clause-conversion
returns-else-report-clause-conversion g c =
    let a = c.run_on-answer.ensures in
    let w = c.flush-writer_failed.ensures in
    let l = c.flush_log-log_failed.ensures in
    conversion_of (conversion_ok c.args.ports.now c.run_on-answer.new.ports c.flush-writer_failed.new.ports c.flush_log-log_failed.new.ports c.args.job _ c.run_on-answer.result _ _ (record { completes = a.completes; fails = a.fails; counts = a.failures }) a.calls w.journal w.flushed l.journal l.flushed
    _ _ (sym c.in-Ok.is ∙ c.after_flushes.ensures) (rw c.if-report.false refl))

pub returns-in-Err-clause-conversion : goal.returns-in-Err-clause-conversion
returns-in-Err-clause-conversion g c =
    let a = c.run_on-answer.ensures in
    let w = c.flush-writer_failed.ensures in
    let l = c.flush_log-log_failed.ensures in
    conversion_of (conversion_err c.args.ports.now c.run_on-answer.new.ports c.flush-writer_failed.new.ports c.flush_log-log_failed.new.ports c.args.job _ c.run_on-answer.result _ _ (record { completes = a.completes; fails = a.fails; counts = a.failures }) a.calls w.journal w.flushed l.journal l.flushed
    c.tell_fault.new.ports _ _ c.tell_fault.ensures.journal (sym c.in-Err.is ∙ c.after_flushes.ensures) c.tell_fault.ensures.tells refl)

pub returns-then-report-clause-converts : goal.returns-then-report-clause-converts
returns-then-report-clause-converts g c is =
    let a = c.run_on-answer.ensures in
    let w = c.flush-writer_failed.ensures in
    let l = c.flush_log-log_failed.ensures in
    converts_of _ _ _ _ _ (conversion_ok c.args.ports.now c.run_on-answer.new.ports c.flush-writer_failed.new.ports c.flush_log-log_failed.new.ports c.args.job _ c.run_on-answer.result _ _ (record { completes = a.completes; fails = a.fails; counts = a.failures }) a.calls w.journal w.flushed l.journal l.flushed
    _ _ (sym c.in-Ok.is ∙ c.after_flushes.ensures) (rw c.if-report.true refl)) is

pub returns-else-report-clause-converts : goal.returns-else-report-clause-converts
returns-else-report-clause-converts g c is =
    let a = c.run_on-answer.ensures in
    let w = c.flush-writer_failed.ensures in
    let l = c.flush_log-log_failed.ensures in
    converts_of _ _ _ _ _ (conversion_ok c.args.ports.now c.run_on-answer.new.ports c.flush-writer_failed.new.ports c.flush_log-log_failed.new.ports c.args.job _ c.run_on-answer.result _ _ (record { completes = a.completes; fails = a.fails; counts = a.failures }) a.calls w.journal w.flushed l.journal l.flushed
    _ _ (sym c.in-Ok.is ∙ c.after_flushes.ensures) (rw c.if-report.false refl)) is

pub returns-then-report-clause-faults : goal.returns-then-report-clause-faults
returns-then-report-clause-faults g c is =
    let a = c.run_on-answer.ensures in
    let w = c.flush-writer_failed.ensures in
    let l = c.flush_log-log_failed.ensures in
    faults_of _ _ _ _ _ (conversion_ok c.args.ports.now c.run_on-answer.new.ports c.flush-writer_failed.new.ports c.flush_log-log_failed.new.ports c.args.job _ c.run_on-answer.result _ _ (record { completes = a.completes; fails = a.fails; counts = a.failures }) a.calls w.journal w.flushed l.journal l.flushed
    _ _ (sym c.in-Ok.is ∙ c.after_flushes.ensures) (rw c.if-report.true refl)) is

pub returns-else-report-clause-faults : goal.returns-else-report-clause-faults
returns-else-report-clause-faults g c is =
    let a = c.run_on-answer.ensures in
    let w = c.flush-writer_failed.ensures in
    let l = c.flush_log-log_failed.ensures in
    faults_of _ _ _ _ _ (conversion_ok c.args.ports.now c.run_on-answer.new.ports c.flush-writer_failed.new.ports c.flush_log-log_failed.new.ports c.args.job _ c.run_on-answer.result _ _ (record { completes = a.completes; fails = a.fails; counts = a.failures }) a.calls w.journal w.flushed l.journal l.flushed
    _ _ (sym c.in-Ok.is ∙ c.after_flushes.ensures) (rw c.if-report.false refl)) is

pub returns-in-Err-clause-faults : goal.returns-in-Err-clause-faults
returns-in-Err-clause-faults g c is =
    let a = c.run_on-answer.ensures in
    let w = c.flush-writer_failed.ensures in
    let l = c.flush_log-log_failed.ensures in
    faults_of _ _ _ _ _ (conversion_err c.args.ports.now c.run_on-answer.new.ports c.flush-writer_failed.new.ports c.flush_log-log_failed.new.ports c.args.job _ c.run_on-answer.result _ _ (record { completes = a.completes; fails = a.fails; counts = a.failures }) a.calls w.journal w.flushed l.journal l.flushed
    c.tell_fault.new.ports _ _ c.tell_fault.ensures.journal (sym c.in-Err.is ∙ c.after_flushes.ensures) c.tell_fault.ensures.tells refl) is

-- Of devices that say what bytes they hold.

pub returns-then-report-clause-told : goal.returns-then-report-clause-told
returns-then-report-clause-told g c =
    let w = c.flush-writer_failed.ensures in
    let l = c.flush_log-log_failed.ensures in
    tells_by_log g.R.Read.remaining g.W.Write.contents g.L.Write.contents _ _ _ _ (tells_by_writer g.R.Read.remaining g.W.Write.contents g.L.Write.contents _ _ _ _ c.run_on-answer.ensures.told w.journal w.told) l.journal l.told

pub returns-else-report-clause-told : goal.returns-else-report-clause-told
returns-else-report-clause-told g c =
    let w = c.flush-writer_failed.ensures in
    let l = c.flush_log-log_failed.ensures in
    tells_by_log g.R.Read.remaining g.W.Write.contents g.L.Write.contents _ _ _ _ (tells_by_writer g.R.Read.remaining g.W.Write.contents g.L.Write.contents _ _ _ _ c.run_on-answer.ensures.told w.journal w.told) l.journal l.told

pub returns-in-Err-clause-told : goal.returns-in-Err-clause-told
returns-in-Err-clause-told g c =
    let w = c.flush-writer_failed.ensures in
    let l = c.flush_log-log_failed.ensures in
    tells_by_log g.R.Read.remaining g.W.Write.contents g.L.Write.contents _ _ _ _ (tells_by_log g.R.Read.remaining g.W.Write.contents g.L.Write.contents _ _ _ _ (tells_by_writer g.R.Read.remaining g.W.Write.contents g.L.Write.contents _ _ _ _ c.run_on-answer.ensures.told w.journal w.told) l.journal l.told) c.tell_fault.ensures.journal c.tell_fault.ensures.told

-- The order of the calls.

pub returns-then-report-clause-order : goal.returns-then-report-clause-order
returns-then-report-clause-order g c = runs_flushed c.args.ports.now c.run_on-answer.new.ports c.flush-writer_failed.new.ports c.flush_log-log_failed.new.ports c.args.job c.run_on-answer.ensures.order.1 c.flush-writer_failed.ensures.journal c.flush_log-log_failed.ensures.journal

pub returns-else-report-clause-order : goal.returns-else-report-clause-order
returns-else-report-clause-order g c = runs_flushed c.args.ports.now c.run_on-answer.new.ports c.flush-writer_failed.new.ports c.flush_log-log_failed.new.ports c.args.job c.run_on-answer.ensures.order.1 c.flush-writer_failed.ensures.journal c.flush_log-log_failed.ensures.journal

pub returns-in-Err-clause-order : goal.returns-in-Err-clause-order
returns-in-Err-clause-order g c =
    runs_told c.args.ports.now c.flush_log-log_failed.new.ports c.tell_fault.new.ports c.args.job (runs_flushed c.args.ports.now c.run_on-answer.new.ports c.flush-writer_failed.new.ports c.flush_log-log_failed.new.ports c.args.job c.run_on-answer.ensures.order.1 c.flush-writer_failed.ensures.journal c.flush_log-log_failed.ensures.journal) c.tell_fault.ensures.journal

-- The devices are the same.

pub returns-then-report-clause-same : goal.returns-then-report-clause-same
returns-then-report-clause-same g c = same_then _ _ _ (same_then _ _ _ c.run_on-answer.ensures.order.0 c.flush-writer_failed.ensures.journal.same) c.flush_log-log_failed.ensures.journal.same

pub returns-else-report-clause-same : goal.returns-else-report-clause-same
returns-else-report-clause-same g c = same_then _ _ _ (same_then _ _ _ c.run_on-answer.ensures.order.0 c.flush-writer_failed.ensures.journal.same) c.flush_log-log_failed.ensures.journal.same

pub returns-in-Err-clause-same : goal.returns-in-Err-clause-same
returns-in-Err-clause-same g c =
    same_then _ _ _ (same_then _ _ _ (same_then _ _ _ c.run_on-answer.ensures.order.0 c.flush-writer_failed.ensures.journal.same) c.flush_log-log_failed.ensures.journal.same) c.tell_fault.ensures.journal.same
