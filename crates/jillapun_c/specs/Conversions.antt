-- What a conversion leaves, by its status.
use Rattle.std.specs.Prelude.{◌≡◌, ◌⊎◌, ◌<◌, ◌≤◌, ℕ, List, [], ◌∷◌, drop, length, take, true, false}
use Rattle.encoding_mem.specs.Piece.{malformed_count}
use Rattle.encoding_mem.specs.Coding.{lost_count}
use Rattle.recode_log.specs.declared.line.LogLine.TheVariants.{Lost}
use Rattle.recode.specs.Job.{Faithful, RunsThrough, input_pieces, input_text, log_of, lost_log_lines, output_of, target_of}
use Rattle.recode.specs.declared.job.Job.{Job}
use Rattle.recode.specs.declared.job.Policy.{Policy}
use Rattle.recode.specs.declared.job.Report.{Report as RunReport}
use Rattle.jillapun_c.specs.Losses.{log_of_losses}
use Rattle.jillapun_c.specs.Room.{BeginsWithPart, HoldsFront, IsReported}
use Rattle.jillapun_c.specs.declared.in_memory.Run.{Run}
use Rattle.jillapun_c.specs.declared.losses.Loss.{Loss}
use Rattle.jillapun_c.specs.declared.report.Report.{Report}
use Rattle.jillapun_c.specs.declared.status.TheConstants.{LOSSY, OK, ROOM, STOPPED, TOO_LONG}

-- some bytes and some records are what a job makes of an input: all, or, if its policy stops, all up to there
pub record IsMadeOf (j : Job) (input output : List ℕ) (losses : List Loss) : Type 0 where
  pub is_output : output ≡ output_of j input
  pub is_log : log_of_losses losses ≡ log_of j input

-- the counts that are reported are those of the input, and no character is named
pub record AreCountsOf (j : Job) (input : List ℕ) (report : Report) : Type 0 where
  pub read : report.read ≡ length input
  pub bad : report.bad ≡ malformed_count (input_pieces j input)
  pub lost : report.lost ≡ lost_count (target_of j) (input_text j input)
  pub characters : report.characters ≡ length (input_text j input)
  pub no_character : (report.index ≡ 0) × (report.scalar ≡ 0)

-- the counts that are reported are 0
pub record HasNoCounts (report : Report) : Type 0 where
  pub read : report.read ≡ 0
  pub bad : report.bad ≡ 0
  pub lost : report.lost ≡ 0
  pub characters : report.characters ≡ 0

-- the policy stopped a job at the first character of the input's text that has no bytes, and the report names it, and
-- counts nothing
pub record StopsAtFirst (j : Job) (input : List ℕ) (report : Report) : Type 0 where
  pub policy : j.policy ≡ Policy.Stop
  pub first : take 1 (lost_log_lines (target_of j) 0 (input_text j input)) ≡ Lost report.index report.scalar ∷ []
  pub no_counts : HasNoCounts report

-- a status by which all was converted: it is the verdict
abbrev pub IsVerdict : (status : ℕ) → Type 0
IsVerdict status = (status ≡ OK) ⊎ (status ≡ LOSSY)

-- a status by which something was converted
abbrev pub IsDone : (status : ℕ) → Type 0
IsDone status = IsVerdict status ⊎ (status ≡ STOPPED)

-- What a status says of a job on an input, and of the bytes and records that were made: if something was converted,
-- they are what the job makes of it; and if all was, the policy stopped nothing.
pub record ConvertsInMemory (j : Job) (input output : List ℕ) (losses : List Loss) (report : Report) (status : ℕ) : Type 0 where
  pub made : IsDone status → IsMadeOf j input output losses
  pub through : IsVerdict status → RunsThrough j input
  pub counts : IsVerdict status → AreCountsOf j input report
  pub faithful : status ≡ OK → Faithful j input
  pub lossy : status ≡ LOSSY → ¬ (Faithful j input)
  pub stopped : status ≡ STOPPED → StopsAtFirst j input report

-- no output and no records in memory are reported
abbrev pub HasNoSizes : Report → Type 0
HasNoSizes report = (report.written ≡ 0) × (report.losses ≡ 0)

-- what the report of a run becomes that counted so many characters
pub record IsToldReport (p : RunReport) (characters : ℕ) (report : Report) (status : ℕ) : Type 0 where
  pub faithful : p.faithful ≡ true → status ≡ OK
  pub lossy : p.faithful ≡ false → status ≡ LOSSY
  pub read : report.read ≡ p.read
  pub bad : report.bad ≡ p.bad
  pub lost : report.lost ≡ p.lost
  pub characters_ : report.characters ≡ characters
  pub no_character : (report.index ≡ 0) × (report.scalar ≡ 0)
  pub no_sizes : HasNoSizes report

-- what is reported of a conversion that the policy stopped: the character
pub record IsToldStop (index scalar : ℕ) (report : Report) (status : ℕ) : Type 0 where
  pub stopped : status ≡ STOPPED
  pub index_ : report.index ≡ index
  pub scalar_ : report.scalar ≡ scalar
  pub no_counts : HasNoCounts report
  pub no_sizes : HasNoSizes report

-- memory begins with what is reported, which it has room for, and nothing after it has changed
pub record IsHandedOver (j : Job) (input : List ℕ) (dst dst' : List ℕ) (losses losses' : List Loss) (report : Report) (status : ℕ) : Type 0 where
  pub fits : report.written ≤ length dst'
  pub losses_fit : report.losses ≤ length losses'
  pub converted : ConvertsInMemory j input (take report.written dst') (take report.losses losses') report status
  pub kept : drop report.written dst' ≡ drop report.written dst
  pub losses_kept : drop report.losses losses' ≡ drop report.losses losses

-- there is less room than what a job makes of an input takes: both rooms begin with the first part of it, and the report
-- says how much is wanted, and nothing else
pub record IsRoomShort (j : Job) (input dst dst' : List ℕ) (losses losses' : List Loss) (report : Report) : Type 0 where
  pub output : List ℕ
  pub records : List Loss
  pub made : IsMadeOf j input output records
  pub short : (length dst < length output) ⊎ (length losses < length records)
  pub begins : BeginsWithPart output dst dst'
  pub losses_begin : BeginsWithPart records losses losses'
  pub written : IsReported (length output) report.written
  pub counted : IsReported (length records) report.losses
  pub no_counts : HasNoCounts report
  pub no_character : (report.index ≡ 0) × (report.scalar ≡ 0)

-- an input within the limit is converted, or there is too little room
abbrev pub ConvertsWithin : Job → (input dst dst' : List ℕ) → (losses losses' : List Loss) → Report → (status : ℕ) → Type 0
ConvertsWithin j input dst dst' losses losses' report status =
    (IsDone status × IsHandedOver j input dst dst' losses losses' report status) ⊎ ((status ≡ ROOM) × IsRoomShort j input dst dst' losses losses' report)

-- an input is converted, if the limit of the job allows its length
abbrev pub ConvertsIfShort : Job → (input dst dst' : List ℕ) → (losses losses' : List Loss) → Report → (status : ℕ) → Type 0
ConvertsIfShort j input dst dst' losses losses' report status =
    ((length input ≤ j.limit) × ConvertsWithin j input dst dst' losses losses' report status) ⊎ ((j.limit < length input) × (status ≡ TOO_LONG))

-- What a job came to in two rooms: what it made, and how far that was put there.
pub record ComesTo (j : Job) (input dst dst' : List ℕ) (losses losses' : List Loss) (run : Run) : Type 0 where
  pub output : List ℕ
  pub records : List Loss
  pub converts : ConvertsInMemory j input output records run.report run.status
  pub written : HoldsFront output dst dst' run.output
  pub lost : HoldsFront records losses losses' run.records
  pub done : length input ≤ j.limit → IsDone run.status
