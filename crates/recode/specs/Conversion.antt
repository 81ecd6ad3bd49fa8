-- What a whole conversion did, and what it says by its status.
use Rattle.std.specs.Prelude.{if◌then◌else◌, ◌≡◌, ℕ, ◌+◌, ◌<◌, ◌⊎◌, List, [], ◌∷◌, ◌++◌, map, take, Bool, true, false, Result, Ok, Err, OnOk, IfErr, codes}
use Rattle.recode_log.specs.Call.{Call, Flush, failed_write}
use Rattle.recode_log.specs.Counted.{TellsMessage, failures_of, history_of}
use Rattle.recode_log.specs.Journal.{AtLog, AtWriter}
use Rattle.recode_log.specs.declared.counted.Counted.{Counted}
use Rattle.recode_log.specs.Line.{row_bytes}
use Rattle.recode.specs.Job.{Faithful}
use Rattle.recode.specs.Runs.{RunReturns}
use Rattle.recode.specs.Session.{Fails, WroteWhole}
use Rattle.recode.specs.Step.{RunCalls}
use Rattle.recode.specs.Devices.{Devices, GaveToEnd, PortsView, devices_of, then_these}
use Rattle.recode.specs.TaggedByte.{Line}
use Rattle.recode.specs.declared.job.Fault.{Fault}
use Rattle.recode.specs.declared.job.Fault.TheVariants.{Read, Write, Log, TooLong, Unmappable}
use Rattle.recode.specs.declared.job.Job.{Job}
use Rattle.recode.specs.declared.job.Report.{Report}

-- The input was read whole and is within the limit, the policy did not stop, output and log are whole, and the status
-- says whether anything was lost.
pub record Converts (before after : Devices) (j : Job) (status : ℕ) : Type 0 where
  pub input : List ℕ
  pub given : GaveToEnd before.reads after.reads input
  pub whole : WroteWhole before.written after.written j input
  pub known : (status ≡ 0) ⊎ (status ≡ 1)
  pub faithful : status ≡ 0 → Faithful j input
  pub lossy : status ≡ 1 → ¬ (Faithful j input)

-- what is said of a fault
abbrev pub message_of : Fault → List ℕ
message_of Read = codes "recode: read fault\n"
message_of Write = codes "recode: write fault\n"
message_of Log = codes "recode: log fault\n"
message_of TooLong = codes "recode: input too long\n"
message_of (Unmappable index scalar) = row_bytes (codes "recode: unmappable ") index scalar

-- what a conversion comes to: what its run returned, or, if that was a report, the fault of the first flush that failed
abbrev pub after_flushes : Result Report Fault → (writer_failed log_failed : Bool) → Result Report Fault
after_flushes (Err f) writer_failed log_failed = Err f
after_flushes (Ok p) true log_failed = Err Write
after_flushes (Ok p) false true = Err Log
after_flushes (Ok p) false false = Ok p

-- the status of what a conversion comes to
abbrev pub status_of : Result Report Fault → ℕ
status_of (Ok p) = if p.faithful then 0 else 1
status_of (Err f) = 4

-- A fault ended the conversion: of its run, or of the first flush behind that which failed. `ran` is what had passed before
-- its message: what a run leaves that ends with this fault. Of the message the log took the first bytes: all, or a call of
-- the log failed.
pub record EndsInFault (before after : Devices) (j : Job) : Type 0 where
  pub fault : Fault
  pub ran : Devices
  pub fails : Fails before ran j fault
  pub unread : after.reads ≡ ran.reads
  pub unwritten : after.written.output ≡ ran.written.output
  pub told : ℕ
  pub message : after.written.log ≡ ran.written.log ++ take told (message_of fault)
  pub ordered : after.written.order ≡ then_these ran.written.order (map Line (take told (message_of fault)))
  pub whole : (take told (message_of fault) ≡ message_of fault) ⊎ (ran.failures.log < after.failures.log)

-- a writer was flushed once, and its count rose by one if that failed
pub record IsFlushed {W : Type 0} (before after : Counted W) (failed : Bool) : Type 0 where
  pub once : history_of after ≡ history_of before ++ (Flush failed ∷ [])
  pub counted : failures_of after ≡ failures_of before + failed_write (Flush failed)

-- What a conversion did: a run, which left the devices as `ran` has them, then one flush of the writer, then one of the log,
-- and, if no fault came, nothing more. After a fault, the message of the first was then written to the log. Before the
-- message, output and log have what a run leaves that ends with this fault.
pub record IsConversion {R W L : Type 0} (before after : PortsView R W L) (j : Job) (room status : ℕ) : Type 0 where
  pub ran : PortsView R W L
  pub answer : Result Report Fault
  pub returns : RunReturns (devices_of before) (devices_of ran) j answer
  pub calls : RunCalls before ran room answer
  pub unread : after.reader ≡ ran.reader
  pub writer_failed : Bool
  pub writer : IsFlushed ran.writer after.writer writer_failed
  pub log_failed : Bool
  pub flushed : Counted L
  pub log : IsFlushed ran.log flushed log_failed
  pub came_to : Result Report Fault
  pub first : came_to ≡ after_flushes answer writer_failed log_failed
  pub fails : IfErr came_to (Fails (devices_of before) (devices_of ran) j)
  pub quiet : OnOk came_to (after.log ≡ flushed)
  pub tells : IfErr came_to (λ f. TellsMessage flushed after.log (message_of f))
  pub told : List Call
  pub made : after.journal ≡ then_these ran.journal (AtWriter (Flush writer_failed) ∷ AtLog (Flush log_failed) ∷ map AtLog told)
  pub answered : status ≡ status_of came_to
