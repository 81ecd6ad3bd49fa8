-- How calls of the three devices follow one another.
use Rattle.std.specs.Prelude.{◌≡◌, ⊤, ℕ, List, [], ◌∷◌, ◌++◌, Option, Some, None}
use Rattle.std.specs.List.{concat}
use Rattle.recode_log.specs.Call.{Call, passed_by}
use Rattle.recode_log.specs.Journal.{AtReader, Entry, reader_calls}
use Rattle.recode.specs.Latency.{TookCertain}
use Rattle.recode.specs.TaggedByte.{order_of}
use Rattle.recode.specs.declared.job.Job.{Job}

-- the bytes that calls of the reader gave, among the calls of a journal
abbrev pub given_by : List Entry → List ℕ
given_by es = concat (passed_by (reader_calls es))

-- At each call of the reader among these calls, what the writer and the log had taken in the calls before it, in one order,
-- was all that is certain of what the reader had given in them: no more and no less.
abbrev pub KeepUp : Job → List Entry → Type 0
KeepUp j es = (before after : List Entry) (call : Call) → es ≡ before ++ (AtReader call ∷ after) → TookCertain j (given_by before) (order_of before)

-- The calls by which a journal grew keep up.
pub record RunsInOrder (before after : List Entry) (j : Job) : Type 0 where
  pub entries : List Entry
  pub made : after ≡ before ++ entries
  pub paced : KeepUp j entries

-- the calls of one journal keep up, if there is one
abbrev pub IsPaced : (before after : Option (List Entry)) → Job → Type 0
IsPaced None after j = ⊤
IsPaced (Some before) None j = ⊤
IsPaced (Some before) (Some after) j = RunsInOrder before after j

-- One call of the reader was made, and after it calls of the writer and of the log alone.
pub record StepsInOrder (before after : List Entry) : Type 0 where
  pub call : Call
  pub writes : List Entry
  pub made : after ≡ before ++ (AtReader call ∷ writes)
  pub unread : reader_calls writes ≡ []
