-- Which device a fault is of, as what its count rises by, and as which call of a writer is its last.
use Rattle.std.specs.Prelude.{ℕ, List, Result, Err}
use Rattle.recode_log.specs.Call.{Call, EndsInFailedWrite}
use Rattle.recode.specs.declared.job.Fault.{Fault}
use Rattle.recode.specs.declared.job.Fault.TheVariants.{Read, Write, Log, TooLong, Unmappable}

-- 1 if the result is a read fault, else 0: by so much the reader's count of failures rises
abbrev pub reader_failures : {T : Type 0} → Result T Fault → ℕ
reader_failures (Err Read) = 1
reader_failures _ = 0

-- 1 if the result is a write fault, else 0: by so much the writer's count of failures rises
abbrev pub writer_failures : {T : Type 0} → Result T Fault → ℕ
writer_failures (Err Write) = 1
writer_failures _ = 0

-- 1 if the result is a log fault, else 0: by so much the log's count of failures rises
abbrev pub log_failures : {T : Type 0} → Result T Fault → ℕ
log_failures (Err Log) = 1
log_failures _ = 0

-- a failed read, or an input that is too long
abbrev pub of_other : {T : Type 0} → Result T Fault → ℕ
of_other (Err Read) = 1
of_other (Err TooLong) = 1
of_other _ = 0

-- if the fault is of the writer or of the log, its last call is the one that failed
abbrev pub EndsAtFault : (writer log : List Call) → Fault → Type 0
EndsAtFault writer log Read = Unit {0}
EndsAtFault writer log Write = EndsInFailedWrite writer
EndsAtFault writer log Log = EndsInFailedWrite log
EndsAtFault writer log TooLong = Unit {0}
EndsAtFault writer log (Unmappable index scalar) = Unit {0}
