-- What steps of a session gave.
use Rattle.std.specs.Prelude.{◌≡◌, ◌↔◌, ℕ, ◌<◌, ◌≤◌, Bool, IsTrue, List, [], ◌∷◌, ◌++◌, None, length, take}
use Rattle.encoding_mem.specs.Piece.{Piece, text}
use Rattle.recode.specs.Job.{Faithful, RunsThrough, input_text, log_of, lost_log_lines, output_of, target_of}
use Rattle.recode.specs.Latency.{WroteDecided}
use Rattle.recode.specs.declared.job.Fault.{Fault}
use Rattle.recode.specs.declared.job.Fault.TheVariants.{Log, Read, TooLong, Unmappable, Write}
use Rattle.recode.specs.declared.job.Job.{Job}
use Rattle.recode.specs.declared.job.Policy.{Policy}
use Rattle.recode_log.specs.declared.line.LogLine.TheVariants.{Lost}

-- An output, a log, a count of characters and a verdict are those of a job for a whole input, which is within its limit and
-- in which its policy stops nothing.
pub record GaveAll (j : Job) (x output log : List ℕ) (characters : ℕ) (faithful : Bool) : Type 0 where
  pub within : length x ≤ j.limit
  pub unstopped : RunsThrough j x
  pub written : output ≡ output_of j x
  pub logged : log ≡ log_of j x
  pub counted : characters ≡ length (input_text j x)
  pub verdict : IsTrue faithful ↔ Faithful j x

-- at least so many bytes of an input were read, and an output and a log have all that these decide, and so many
-- characters are counted
pub record GaveDecided (j : Job) (x : List ℕ) (steps : ℕ) (output log : List ℕ) (characters : ℕ) : Type 0 where
  pub read : List ℕ
  pub rest : List ℕ
  pub split : x ≡ read ++ rest
  pub enough : steps ≤ length read
  pub pieces : List Piece
  pub counted : characters ≡ length (text pieces)
  pub decided : WroteDecided (record { output = []; log = []; order = None }) (record { output = output; log = log; order = None }) j read pieces

-- What a fault says of an input is true: it is longer than the limit, or the policy stops, and this is its first lost
-- character. A failed call of a device says nothing of it.
abbrev pub TellsFault : Job → List ℕ → Fault → Type 0
TellsFault j x Read = Unit {0}
TellsFault j x Write = Unit {0}
TellsFault j x Log = Unit {0}
TellsFault j x TooLong = j.limit < length x
TellsFault j x (Unmappable index scalar) = (j.policy ≡ Policy.Stop) × (take 1 (lost_log_lines (target_of j) 0 (input_text j x)) ≡ Lost index scalar ∷ [])
