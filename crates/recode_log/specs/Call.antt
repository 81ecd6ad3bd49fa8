-- What the calls of a reader or a writer did: the history of a device.
use Rattle.std.specs.Prelude.{◌≡◌, ℕ, ◌+◌, ◌-◌, ◌<◌, min, List, [], ◌∷◌, ◌++◌, Bool, true, false, Result, Ok, Err, length, take}

-- One call of a device: a read or a write that passed the first bytes of its buffer, or that failed, each with the
-- length of the buffer, or a flush, and whether it failed.
pub data Call : Type 0 where
  Passed : (room : ℕ) (bytes : List ℕ) → Call
  Failed : (room : ℕ) → Call
  Flush : (failed : Bool) → Call

-- the read or the write with this buffer and this answer
abbrev pub call_of : {E : Type 0} → Result ℕ E → List ℕ → Call
call_of (Ok n) buf = Passed (length buf) (take n buf)
call_of (Err e) buf = Failed (length buf)

-- the flush with this answer
abbrev pub flush_of : {T E : Type 0} → Result T E → Call
flush_of (Ok done) = Flush false
flush_of (Err e) = Flush true

-- one call was made, a read or a write with this buffer, and this is what it answered
abbrev pub CallsOnce : {E : Type 0} → (before after : List Call) → Result ℕ E → List ℕ → Type 0
CallsOnce before after r buf = after ≡ before ++ (call_of r buf ∷ [])

-- one call was made, a flush, and this is what it answered
abbrev pub FlushesOnce : {T E : Type 0} → (before after : List Call) → Result T E → Type 0
FlushesOnce before after r = after ≡ before ++ (flush_of r ∷ [])

-- the bytes of each read or write of a history that did not fail, in their order
abbrev pub passed_by : List Call → List (List ℕ)
passed_by [] = []
passed_by (Passed room bytes ∷ calls) = bytes ∷ passed_by calls
passed_by (Failed room ∷ calls) = passed_by calls
passed_by (Flush failed ∷ calls) = passed_by calls

-- a call is a write of some bytes, whatever came of it
abbrev pub IsWriteOfSome : Call → Type 0
IsWriteOfSome (Passed room bytes) = 0 < room
IsWriteOfSome (Failed room) = 0 < room
IsWriteOfSome (Flush failed) = ⊥

-- 1 if a call of a reader failed, else 0
abbrev pub failed_read : Call → ℕ
failed_read (Failed room) = 1
failed_read _ = 0

-- 1 if a call of a writer failed, else 0: it returned an error, or it was a write of some bytes that took none
abbrev pub failed_write : Call → ℕ
failed_write (Passed room []) = min 1 room
failed_write (Passed room (b ∷ bytes)) = 0
failed_write (Failed room) = 1
failed_write (Flush true) = 1
failed_write (Flush false) = 0

-- how many of a writer's calls failed
abbrev pub failed_writes : List Call → ℕ
failed_writes [] = 0
failed_writes (call ∷ calls) = failed_write call + failed_writes calls

-- the last call of the history of a writer failed
pub record EndsInFailedWrite (calls : List Call) : Type 0 where
  pub earlier : List Call
  pub last : Call
  pub ends : calls ≡ earlier ++ (last ∷ [])
  pub failed : failed_write last ≡ 1

-- Of so many bytes, these calls of a writer are each a write of all that is left. What a call takes is left no more.
abbrev pub OffersAllLeft : (left : ℕ) → List Call → Type 0
OffersAllLeft left [] = Unit {0}
OffersAllLeft left (Passed room bytes ∷ calls) = (room ≡ left) × OffersAllLeft (left - length bytes) calls
OffersAllLeft left (Failed room ∷ calls) = (room ≡ left) × OffersAllLeft left calls
OffersAllLeft left (Flush failed ∷ calls) = ⊥
