-- What a clause reads of a `Counted`, and what is left of a message.
use Rattle.std.specs.Prelude.{◌≡◌, ◌⊎◌, ℕ, ◌+◌, ◌<◌, List, ◌++◌, length, take}
use Rattle.std.specs.List.{All, concat}
use Rattle.recode_log.specs.Call.{Call, EndsInFailedWrite, IsWriteOfSome, OffersAllLeft, failed_writes, passed_by}
use Rattle.recode_log.specs.declared.counted.Counted.{Counted}

-- the reader or the writer that a `Counted` wraps
abbrev pub inner_of : {T : Type 0} → Counted T → T
inner_of c = c.recorded.inner

-- how many calls of the reader or the writer that a `Counted` wraps have failed
abbrev pub failures_of : {T : Type 0} → Counted T → ℕ
failures_of c = c.failures

-- the history of the reader or the writer that a `Counted` wraps: its calls, in their order
abbrev pub history_of : {T : Type 0} → Counted T → List Call
history_of c = c.recorded.history.calls

-- all the bytes that a reader gave, or a writer took
abbrev pub passed_of : {T : Type 0} → Counted T → List ℕ
passed_of c = concat (passed_by (history_of c))

-- the first `told` bytes of a message were written: all of it and no call failed, or not all and one did
abbrev pub IsTold : (before after : ℕ) (message : List ℕ) (told : ℕ) → Type 0
IsTold before after message told = ((after ≡ before) × (take told message ≡ message)) ⊎ ((after ≡ before + 1) × (told < length message))

-- These calls of a writer were made, each a write of some bytes, and the count rose by those of them that failed.
pub record CountsWrites {T : Type 0} (before after : Counted T) : Type 0 where
  pub calls : List Call
  pub made : history_of after ≡ history_of before ++ calls
  pub some : All IsWriteOfSome calls
  pub counted : failures_of after ≡ failures_of before + failed_writes calls

-- and each was a write of all that was left of so many bytes
pub record OffersAll {T : Type 0} (before after : Counted T) (size : ℕ) : Type 0 where
  pub writes : CountsWrites before after
  pub all : OffersAllLeft size writes.calls

-- A message was written: all of it and no call failed, or not all, and the last call failed, and no other. Each call was a
-- write of all that was left of it.
pub record TellsMessage {T : Type 0} (before after : Counted T) (message : List ℕ) : Type 0 where
  pub told : ℕ
  pub whole : IsTold (failures_of before) (failures_of after) message told
  pub passed : passed_of after ≡ passed_of before ++ take told message
  pub offers : OffersAll before after (length message)
  pub last : told < length message → EndsInFailedWrite (history_of after)
