-- A session as its callers know it, and what a run of it says.
use Rattle.std.specs.Prelude.{◌<◌, ◌≡◌, ℕ, ◌≤◌, ◌==◌, ◌⊎◌, ◌↔◌, Bool, IsTrue, List, [], ◌∷◌, ◌++◌, length, true, false, Result, Ok, Err}
use Rattle.std.specs.List.{concat}
use Rattle.encoding_mem.specs.Piece.{malformed_count}
use Rattle.encoding_mem.specs.Coding.{lost_count}
use Rattle.encoding_mem.specs.declared.codec.form.EscapeState.TheVariants.{Ascii}
use Rattle.recode.specs.Job.{trace, whole_trace, target_of, output_of, log_of, source_in, input_pieces, input_text, Faithful, RunsThrough}
use Rattle.recode.specs.Latency.{TookCertain}
use Rattle.recode.specs.State.{State, WillBeFaithful, to_write}
use Rattle.recode.specs.Devices.{Devices, GaveToEnd, Written, Wrote, then_these}
use Rattle.recode.specs.TaggedByte.{TaggedByte, IsPrefix, tagged}
use Rattle.recode.specs.WrittenItems.{IsStop}
use Rattle.recode.specs.declared.job.Fault.{Fault}
use Rattle.recode.specs.declared.job.Fault.TheVariants.{Read, TooLong}
use Rattle.recode.specs.declared.job.Job.{Job}
use Rattle.recode.specs.declared.job.Progress.{Progress}
use Rattle.recode.specs.declared.job.Report.{Report}
use Rattle.recode.specs.declared.session.Phase.{Phase}
use Rattle.recode.specs.declared.session.Phase.TheVariants.{Open, Done, Stopped}

-- a session as its callers know it: its job, where the conversion stands, and its phase
pub record View : Type 0 where
  pub job : Job
  pub state : State
  pub phase : Phase

-- the phase is that of a session that has ended: it is done, or a fault stopped it
abbrev pub IsOver : Phase → Type 0
IsOver Open = ⊥
IsOver Done = Unit {0}
IsOver Stopped = Unit {0}

-- the phase of a session after a step, by how the step ended: open, done, or stopped by a fault
abbrev pub phase_after : Result Progress Fault → Phase
phase_after (Ok Progress.More) = Open
phase_after (Ok Progress.Done) = Done
phase_after (Err f) = Stopped

-- what holds of each step: the job stays, and the phase says how it ended. At `Read` and `TooLong` the conversion stands
-- where it stood.
pub record IsStepped (v v' : View) (answer : Result Progress Fault) : Type 0 where
  pub job : v'.job ≡ v.job
  pub target : v'.state.coding ≡ v.state.coding
  pub phase : v'.phase ≡ phase_after answer
  pub unread : (answer ≡ Err Read) ⊎ (answer ≡ Err TooLong) → v'.state ≡ v.state

-- a session that has read nothing
pub record IsNewSession (v : View) (j : Job) : Type 0 where
  pub job : v.job ≡ j
  pub open_ : v.phase ≡ Open
  pub source : (x : List ℕ) → v.state.source x ≡ source_in j x
  pub coding : v.state.coding ≡ target_of j
  pub policy : v.state.policy ≡ j.policy
  pub read : v.state.counts.read ≡ 0
  pub bad : v.state.counts.bad ≡ 0
  pub lost : v.state.counts.lost ≡ 0
  pub index : v.state.counts.index ≡ 0
  pub calls : v.state.counts.calls ≡ 0
  pub set : v.state.set ≡ Ascii
  pub pending : v.state.decoder.pending ≡ 0
  pub pieces : (x : List ℕ) → v.state.decoder.pieces x ≡ input_pieces j x
  pub owes_trace : (x : List ℕ) → to_write v.state x ≡ whole_trace j x
  pub verdict : (x : List ℕ) → WillBeFaithful v.state x ↔ Faithful j x

-- what is reported of a conversion that has read all
pub record ReportsOn (s : State) (p : Report) : Type 0 where
  pub read : p.read ≡ s.counts.read
  pub bad : p.bad ≡ s.counts.bad
  pub lost : p.lost ≡ s.counts.lost
  pub calls : p.calls ≡ s.counts.calls
  pub encoding : p.encoding ≡ s.source []
  pub verdict : p.faithful ≡ s.verdict.faithful

-- what a session says once it has read all
abbrev pub Tells : View → Report → Type 0
Tells v p = ReportsOn v.state p

-- the report on the conversion of an input x: its counts, its source encoding and its verdict
pub record IsReport (j : Job) (x : List ℕ) (p : Report) : Type 0 where
  pub read : p.read ≡ length x
  pub bad : p.bad ≡ malformed_count (input_pieces j x)
  pub lost : p.lost ≡ lost_count (target_of j) (input_text j x)
  pub encoding : p.encoding ≡ source_in j x
  pub faithful : IsTrue p.faithful ↔ Faithful j x

-- The input is within the limit, the policy stops nothing in it, and output and log grew by all
-- that is written for it, in its order if that is known.
pub record WroteWhole (before after : Written) (j : Job) (x : List ℕ) : Type 0 where
  pub within : length x ≤ j.limit
  pub unstopped : RunsThrough j x
  pub output : after.output ≡ before.output ++ output_of j x
  pub logged : after.log ≡ before.log ++ log_of j x
  pub ordered : after.order ≡ then_these before.order (tagged (trace j x))

-- all of an input was converted and written, and the report is that on it
pub record IsConverted (before after : Written) (j : Job) (x : List ℕ) (p : Report) : Type 0 where
  pub whole : WroteWhole before after j x
  pub report : IsReport j x p

-- A run that came to its end: the input was read to its end, converted and reported.
pub record Completes (before after : Devices) (j : Job) (p : Report) : Type 0 where
  pub input : List ℕ
  pub given : GaveToEnd before.reads after.reads input
  pub converted : IsConverted before.written after.written j input p

-- what was converted of these reads up to a fault: the bytes of all, but, if the input is too long, of all but the last
abbrev pub input_of : Fault → List (List ℕ) → List ℕ
input_of TooLong (last ∷ []) = []
input_of f [] = []
input_of f (read ∷ reads) = read ++ input_of f reads

-- whether these reads came to the end of the input: the last of them gave no byte
abbrev pub at_end : List (List ℕ) → Bool
at_end [] = false
at_end (last ∷ []) = length last == 0
at_end (read ∷ next ∷ reads) = at_end (next ∷ reads)

-- A run that a fault ended. What was written is a prefix of what any continuation of the input gives (none if the end was
-- read), output and log in their one order. If the policy stopped the run, what was written is all that any continuation
-- gives, and ends with the line of the lost character. Reads that are too long pass the limit with the last. If the fault
-- is `Read` or `TooLong`, all was written that is certain, whatever bytes follow the input.
pub record Fails (before after : Devices) (j : Job) (f : Fault) : Type 0 where
  pub reads : List (List ℕ)
  pub given : after.reads ≡ before.reads ++ reads
  pub within : length (input_of f reads) ≤ j.limit
  pub limited : f ≡ TooLong → j.limit < length (concat reads)
  pub taken : List TaggedByte
  pub wrote : Wrote before.written after.written taken
  pub prefix : (r : List ℕ) → (at_end reads ≡ true → r ≡ []) → IsPrefix taken (tagged (trace j (input_of f reads ++ r)))
  pub stopped : (r : List ℕ) → (at_end reads ≡ true → r ≡ []) → IsStop f taken (trace j (input_of f reads ++ r))
  pub latest : (f ≡ Read) ⊎ (f ≡ TooLong) → TookCertain j (input_of f reads) taken
