-- Why a log was not joined: of which device the fault is, or what is wrong with the log.
use Rattle.std.specs.Prelude.{◌≡◌, ℕ, ◌<◌, ◌^◌, List, ◌∷◌, ◌++◌, [], length, Result, Err}
use Rattle.recode_log.specs.Call.{Call, EndsInFailedWrite, Failed}
use Rattle.recode_log.specs.Counted.{history_of}
use Rattle.recode_log.specs.declared.counted.Counted.{Counted}
use Rattle.recode.specs.Devices.{IsOf, reads_of}
use Rattle.recode_parts.specs.Joins.{CanBeMoved}
use Rattle.recode_parts.specs.declared.join.JoinFault.{JoinFault}
use Rattle.recode_parts.specs.declared.join.JoinFault.TheVariants.{NotALog, Read, Write}

-- 1 if the result is a read fault, else 0: by so much the count of failures of the part's reader rises
abbrev pub failures_of_part : {T : Type 0} → Result T JoinFault → ℕ
failures_of_part (Err Read) = 1
failures_of_part _ = 0

-- 1 if the result is a write fault, else 0: by so much the count of failures of the whole's writer rises
abbrev pub failures_of_whole : {T : Type 0} → Result T JoinFault → ℕ
failures_of_whole (Err Write) = 1
failures_of_whole _ = 0

-- the last call of the history of a reader failed
pub record EndsInFailedRead (calls : List Call) : Type 0 where
  pub earlier : List Call
  pub room : ℕ
  pub ends : calls ≡ earlier ++ (Failed room ∷ [])

-- No log that can be moved by n bytes and m characters, and has at most 2^55 bytes, begins with what calls of a reader gave;
-- nor is one all of it, if the last of these calls gave no bytes.
abbrev pub IsOfNoLog : (n m : ℕ) (reads reads' : List (List ℕ)) → Type 0
IsOfNoLog n m reads reads' = (x : List ℕ) → IsOf reads reads' x → CanBeMoved n m x → 2 ^ 55 < length x

-- The fault is that of the device whose last call failed, the part's reader or the whole's writer, or what the reader gave
-- is of no log that can be moved.
abbrev pub IsJoinFaultOf : {R W : Type 0} → (n m : ℕ) (part part' : Counted R) (whole' : Counted W) → JoinFault → Type 0
IsJoinFaultOf n m part part' whole' Read = EndsInFailedRead (history_of part')
IsJoinFaultOf n m part part' whole' Write = EndsInFailedWrite (history_of whole')
IsJoinFaultOf n m part part' whole' NotALog = IsOfNoLog n m (reads_of part) (reads_of part')
