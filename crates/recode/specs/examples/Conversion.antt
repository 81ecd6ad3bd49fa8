-- Worked rows of `specs/Conversion.antt`.
use Rattle.std.proofs.Common.{◌≡◌, ℕ, [], ◌∷◌, codes, Ok, Err, false, refl, true}
use Rattle.recode_log.specs.Call.{Flush, Passed}
use Rattle.recode.specs.Conversion.{IsFlushed, message_of, after_flushes, status_of}
use Rattle.recode.specs.declared.job.Fault.TheVariants.{Read, Write}
use Rattle.recode.specs.declared.job.Report.{Report}

-- the fault of the run is the first, though both flushes fail, too
after_flushes-run_first : after_flushes (Err Read) true true ≡ Err Read
after_flushes-run_first = refl

-- that of the writer's flush comes before that of the log's
after_flushes-writer_first : (p : Report) → after_flushes (Ok p) true true ≡ Err Write
after_flushes-writer_first p = refl

-- with no fault, the report is what counts
status_of-faithful : (p : Report) → p.faithful ≡ true → status_of (Ok p) ≡ 0
status_of-faithful p faithful = rw faithful refl

status_of-lossy : (p : Report) → p.faithful ≡ false → status_of (Ok p) ≡ 1
status_of-lossy p lossy = rw lossy refl

status_of-fault : status_of (Err Write) ≡ 4
status_of-fault = refl

message_of-write : message_of Write ≡ codes "recode: write fault\n"
message_of-write = refl

-- after a write, a flush fails, which is counted
is_flushed-failed : IsFlushed {W = ℕ} (record { recorded = record { inner = 0; history = record { calls = Passed 1 (7 ∷ []) ∷ [] } }; failures = 2 })
    (record { recorded = record { inner = 0; history = record { calls = Passed 1 (7 ∷ []) ∷ Flush true ∷ [] } }; failures = 3 }) true
is_flushed-failed = record { once = refl; counted = refl }
