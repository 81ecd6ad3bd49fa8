-- What a run says of devices that say what bytes they hold: it is these bytes that a reader lost, and that a
-- writer and a log hold.
use Rattle.std.specs.Prelude.{◌≡◌, ◌⊎◌, List, true}
use Rattle.std.specs.List.{concat}
use Rattle.std.specs.Io.KnownBytes.{Appends, Consumes, IsAtEnd}
use Rattle.recode.specs.Devices.{Devices}
use Rattle.recode.specs.Job.{log_of, output_of}
use Rattle.recode.specs.Session.{Completes, Fails, at_end, input_of}
use Rattle.recode.specs.Latency.{WroteDecided}
use Rattle.encoding_mem.specs.Piece.{Piece}
use Rattle.recode.specs.TaggedByte.{log_bytes, output_bytes}
use Rattle.recode.specs.Told.{Told}
use Rattle.recode.specs.declared.job.Fault.{Fault}
use Rattle.recode.specs.declared.job.Fault.TheVariants.{Read, TooLong}
use Rattle.recode.specs.declared.job.Job.{Job}
use Rattle.recode.specs.declared.job.Report.{Report}

-- A run that came to its end: the reader lost the input, and has no more. The output grew by the job's output of it, and the
-- log by its log.
pub record CompletesTold (before after : Devices) (told told' : Told) (j : Job) (p : Report) : Type 0 where
  pub completes : Completes before after j p
  pub consumed : Consumes told.input told'.input completes.input
  pub end : IsAtEnd told'.input
  pub output : Appends told.output told'.output (output_of j completes.input)
  pub logged : Appends told.log told'.log (log_of j completes.input)

-- A run that a fault ended: the reader lost what was read, and has no more if the end was. Output and log grew by what was
-- written.
pub record FailsTold (before after : Devices) (told told' : Told) (j : Job) (f : Fault) : Type 0 where
  pub fails : Fails before after j f
  pub consumed : Consumes told.input told'.input (concat fails.reads)
  pub end : at_end fails.reads ≡ true → IsAtEnd told'.input
  pub output : Appends told.output told'.output (output_bytes fails.taken)
  pub logged : Appends told.log told'.log (log_bytes fails.taken)

-- A run that a fault ended. If the fault is `Read` or `TooLong`, what was written is the text of the pieces that the input
-- decides, and what was logged their lines.
pub record FailsDecided (before after : Devices) (j : Job) (f : Fault) : Type 0 where
  pub fails : Fails before after j f
  pub decided : (f ≡ Read) ⊎ (f ≡ TooLong) → (ps : List Piece) × WroteDecided before.written after.written j (input_of f fails.reads) ps
