-- Worked rows of `specs/Call.antt`.
use Rattle.std.proofs.Common.{◌≡◌, ℕ, [], ◌∷◌, Ok, Err, false, true, refl, ap, arith, length}
use Rattle.std.specs.List.{concat}
use Rattle.std.proofs.lemmas.List.{same_from_push}
use Rattle.recode_log.specs.Call.{CallsOnce, EndsInFailedWrite, FlushesOnce, IsWriteOfSome, OffersAllLeft, call_of, failed_read, failed_write, failed_writes, flush_of, passed_by}
use Rattle.recode_log.specs.Call.{Failed, Flush, Passed}

-- a read that gives two bytes, into a room of four
call_of-some : call_of {E = ℕ} (Ok 2) (0x41 ∷ 0x42 ∷ 0 ∷ 0 ∷ []) ≡ Passed 4 (0x41 ∷ 0x42 ∷ [])
call_of-some = refl

-- the end: a read that gives none
call_of-end : call_of {E = ℕ} (Ok 0) (0 ∷ 0 ∷ []) ≡ Passed 2 []
call_of-end = refl

-- a write of three bytes that fails
call_of-failed : call_of {E = ℕ} (Err 5) (1 ∷ 2 ∷ 3 ∷ []) ≡ Failed 3
call_of-failed = refl

-- a flush that goes well
flush_of-done : flush_of {T = ℕ} {E = ℕ} (Ok 0) ≡ Flush false
flush_of-done = refl

-- refuted: a call that failed is made again
calls_once-again : CallsOnce {E = ℕ} [] (Failed 3 ∷ Failed 3 ∷ []) (Err 5) (1 ∷ 2 ∷ 3 ∷ []) → ⊥
calls_once-again h = omega (arith, ap length h)

-- refuted: the device is given two bytes of a buffer of three
calls_once-cut : CallsOnce {E = ℕ} [] (Passed 2 (1 ∷ []) ∷ []) (Ok 1) (1 ∷ 2 ∷ 3 ∷ []) → ⊥
calls_once-cut h = let same : ◌≡◌ {A = ℕ} 2 3 = cc in omega (arith, same)

-- refuted: a call returns an answer, and the device was not called
calls_once-none : CallsOnce {E = ℕ} [] [] (Ok 0) (1 ∷ 2 ∷ 3 ∷ []) → ⊥
calls_once-none h = omega (arith, ap length h)

-- refuted: a flush returns an error, and the device returned none
flushes_once-well : FlushesOnce {T = ℕ} {E = ℕ} [] (Flush false ∷ []) (Err 5) → ⊥
flushes_once-well h = cc

-- of a read, one that failed, a flush and the end, the reads that did not fail gave these bytes
passed_by-reads : passed_by (Passed 4 (0x41 ∷ 0x42 ∷ []) ∷ Failed 4 ∷ Flush false ∷ Passed 4 [] ∷ []) ≡ (0x41 ∷ 0x42 ∷ []) ∷ [] ∷ []
passed_by-reads = refl

-- two writes took these bytes in all
passed_by-writes : concat (passed_by (Passed 2 (1 ∷ 2 ∷ []) ∷ Passed 3 (3 ∷ []) ∷ [])) ≡ 1 ∷ 2 ∷ 3 ∷ []
passed_by-writes = refl

-- a write of three bytes that takes none has failed
failed_write-none_taken : failed_write (Passed 3 []) ≡ 1
failed_write-none_taken = refl

-- one of no bytes has not
failed_write-nothing_to_take : failed_write (Passed 0 []) ≡ 0
failed_write-nothing_to_take = refl

-- a flush that fails is the last call
ends_in_failed_write-flush : EndsInFailedWrite (Passed 2 (1 ∷ 2 ∷ []) ∷ Flush true ∷ [])
ends_in_failed_write-flush = record { earlier = Passed 2 (1 ∷ 2 ∷ []) ∷ []; last = Flush true; ends = refl; failed = refl }

-- refuted: the fault is of a write that took a byte
ends_in_failed_write-took : EndsInFailedWrite (Failed 2 ∷ Passed 2 (1 ∷ []) ∷ []) → ⊥
ends_in_failed_write-took h = omega (arith, h.failed, ap failed_write (same_from_push (Failed 2 ∷ []) h.earlier (Passed 2 (1 ∷ [])) h.last h.ends).1)

-- of a write that takes a byte, one that takes none, one of no bytes, one that fails and a flush that fails, three failed
failed_writes-some : failed_writes (Passed 2 (1 ∷ []) ∷ Passed 1 [] ∷ Passed 0 [] ∷ Failed 1 ∷ Flush true ∷ Flush false ∷ []) ≡ 3
failed_writes-some = refl

-- the end of what a reader has is no failure
failed_read-end : failed_read (Passed 4 []) ≡ 0
failed_read-end = refl

failed_read-failed : failed_read (Failed 4) ≡ 1
failed_read-failed = refl

-- a write of no bytes, and a flush, are no writes of some
is_write_of_some-one : IsWriteOfSome (Passed 1 [])
is_write_of_some-one = omega arith

is_write_of_some-none : IsWriteOfSome (Passed 0 []) → ⊥
is_write_of_some-none h = omega (arith, h)

is_write_of_some-flush : IsWriteOfSome (Flush false) → ⊥
is_write_of_some-flush h = h

-- of five bytes, a first write offers all, of which two are taken, and a second the three that are left
offers_all_left-two_writes : OffersAllLeft 5 (Passed 5 (1 ∷ 2 ∷ []) ∷ Passed 3 (3 ∷ 4 ∷ 5 ∷ []) ∷ [])
offers_all_left-two_writes = (refl, (refl, tt))

-- nor is a byte taken off by a write that fails
offers_all_left-failed : OffersAllLeft 2 (Passed 2 (1 ∷ []) ∷ Failed 1 ∷ [])
offers_all_left-failed = (refl, (refl, tt))

-- a write of one byte of two does not offer all
offers_all_left-one_byte : OffersAllLeft 2 (Passed 1 (1 ∷ []) ∷ Passed 1 (2 ∷ []) ∷ []) → ⊥
offers_all_left-one_byte h = omega (arith, h.0)

-- nor does one that begins anew
offers_all_left-again : OffersAllLeft 2 (Passed 2 (1 ∷ []) ∷ Passed 2 (1 ∷ 2 ∷ []) ∷ []) → ⊥
offers_all_left-again h = omega (arith, h.1.0)

-- a flush offers nothing
offers_all_left-flush : OffersAllLeft 0 (Flush false ∷ []) → ⊥
offers_all_left-flush h = h
