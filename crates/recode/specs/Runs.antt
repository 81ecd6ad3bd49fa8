-- What two runs have in common, and what a run returns.
use Rattle.std.specs.Prelude.{◌≡◌, ℕ, List, [], Result, Ok, Err, IfOk, IfErr}
use Rattle.recode.specs.Devices.{CountsFault, Devices, Written, Wrote}
use Rattle.recode.specs.TaggedByte.{TaggedByte}
use Rattle.recode.specs.Session.{Completes, Fails}
use Rattle.recode.specs.declared.job.Fault.{Fault}
use Rattle.recode.specs.declared.job.Fault.TheVariants.{Read, Write, Log, TooLong, Unmappable}
use Rattle.recode.specs.declared.job.Job.{Job}
use Rattle.recode.specs.declared.job.Policy.{Policy}
use Rattle.recode.specs.declared.job.Report.{Report}

-- each writer took the same bytes of the output and of the log, in the same order
pub record WroteTheSame (before after other other' : Written) : Type 0 where
  pub taken : List TaggedByte
  pub one : Wrote before after taken
  pub another : Wrote other other' taken

-- reports that differ in the calls of codecs alone
abbrev pub AgreeButForCalls : Report → Report → Type 0
AgreeButForCalls p q = q ≡ record p { calls = q.calls }

-- the output was empty, and these bytes are all of it
pub record IsWholeOutput (before after : Written) (bytes : List ℕ) : Type 0 where
  pub begun : before.output ≡ []
  pub all : after.output ≡ bytes

-- the policy is one that stops, and stopped the run
abbrev pub IsStopped : Policy → Result Report Fault → Type 0
IsStopped p (Ok report) = ⊥
IsStopped p (Err Read) = ⊥
IsStopped p (Err Write) = ⊥
IsStopped p (Err Log) = ⊥
IsStopped p (Err TooLong) = ⊥
IsStopped p (Err (Unmappable index scalar)) = p ≡ Policy.Stop

-- what `run` ensures of its result
pub record RunReturns (before after : Devices) (j : Job) (answer : Result Report Fault) : Type 0 where
  pub completes : IfOk answer (Completes before after j)
  pub fails : IfErr answer (Fails before after j)
  pub counts : CountsFault before after answer
