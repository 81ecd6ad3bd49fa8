-- What a fault leaves, by its kind: a table.
use Rattle.std.specs.Prelude.{◌≡◌, ℕ, ◌<◌, List, [], ◌++◌, length, true}
use Rattle.std.specs.List.{concat}
use Rattle.recode.specs.Devices.{Devices, Wrote}
use Rattle.recode.specs.Job.{trace}
use Rattle.recode.specs.Latency.{TookCertain}
use Rattle.recode.specs.Session.{at_end, input_of}
use Rattle.recode.specs.TaggedByte.{IsPrefix, TaggedByte, tagged}
use Rattle.recode.specs.WrittenItems.{StopsAtLoss}
use Rattle.recode.specs.declared.job.Fault.{Fault}
use Rattle.recode.specs.declared.job.Fault.TheVariants.{Read, Write, Log, TooLong, Unmappable}
use Rattle.recode.specs.declared.job.Job.{Job}
use Rattle.recode.specs.declared.job.Policy.{Policy}

-- What was taken is a prefix of what is written for these reads, whatever follows them, or nothing if they came to the end.
abbrev pub IsPrefixFor : Job → List (List ℕ) → List TaggedByte → Type 0
IsPrefixFor j reads taken = (r : List ℕ) → (at_end reads ≡ true → r ≡ []) → IsPrefix taken (tagged (trace j (concat reads ++ r)))

-- The policy stops, and did so at this character: what was taken is all that is written for these reads, whatever follows
-- them, and ends with the line of the character.
pub record IsStopFor (j : Job) (reads : List (List ℕ)) (taken : List TaggedByte) (index scalar : ℕ) : Type 0 where
  pub policy : j.policy ≡ Policy.Stop
  pub stopped : (r : List ℕ) → (at_end reads ≡ true → r ≡ []) → StopsAtLoss index scalar taken (trace j (concat reads ++ r))

-- What a fault leaves of a run that has had these reads.
-- If a read failed: all that is certain of them.
-- If a write of the output or of the log failed: a prefix.
-- If the input is too long: all that is certain of all reads but the last, with which they pass the limit.
-- If the policy stopped it: all up to the line of the character.
abbrev pub LeftBy : Fault → Job → List (List ℕ) → List TaggedByte → Type 0
LeftBy Read j reads taken = TookCertain j (concat reads) taken
LeftBy Write j reads taken = IsPrefixFor j reads taken
LeftBy Log j reads taken = IsPrefixFor j reads taken
LeftBy TooLong j reads taken = TookCertain j (input_of TooLong reads) taken × (j.limit < length (concat reads))
LeftBy (Unmappable index scalar) j reads taken = IsStopFor j reads taken index scalar

-- A fault left so much of a run: these reads were made, and this was taken of them, in one order.
pub record FaultLeaves (before after : Devices) (j : Job) (f : Fault) : Type 0 where
  pub reads : List (List ℕ)
  pub given : after.reads ≡ before.reads ++ reads
  pub taken : List TaggedByte
  pub wrote : Wrote before.written after.written taken
  pub leaves : LeftBy f j reads taken
