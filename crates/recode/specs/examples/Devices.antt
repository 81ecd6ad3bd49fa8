-- Worked rows of `specs/Devices.antt` and `specs/Fault.antt`.
use Rattle.std.proofs.Common.{◌≡◌, ◌+◌, [], ◌∷◌, Ok, Err, true, arith, refl}
use Rattle.recode_log.specs.Call.{Flush, Passed}
use Rattle.recode.specs.Devices.{CountsFault, Devices, Gave, GaveThen, GaveToEnd, Grew, HaveFailedAtMost}
use Rattle.recode.specs.Fault.{EndsAtFault}
use Rattle.recode.specs.declared.job.Fault.TheVariants.{Write}

-- a writer that had taken 1 takes 2
grew-one : Grew (1 ∷ []) (1 ∷ 2 ∷ []) (2 ∷ [])
grew-one = refl

-- after a read of 9, two reads give three bytes
gave-two_reads : Gave ((9 ∷ []) ∷ []) ((9 ∷ []) ∷ (1 ∷ 2 ∷ []) ∷ (3 ∷ []) ∷ []) (1 ∷ 2 ∷ 3 ∷ [])
gave-two_reads = ((1 ∷ 2 ∷ []) ∷ (3 ∷ []) ∷ [], refl, refl)

-- one gives two, and the next none: the end
gave_to_end-two_bytes : GaveToEnd [] ((1 ∷ 2 ∷ []) ∷ [] ∷ []) (1 ∷ 2 ∷ [])
gave_to_end-two_bytes = ((1 ∷ 2 ∷ []) ∷ [], refl, refl)

-- one gives two, and then one gives the third
gave_then-third : GaveThen [] ((1 ∷ 2 ∷ []) ∷ (3 ∷ []) ∷ []) (1 ∷ 2 ∷ []) (3 ∷ [])
gave_then-third = ((1 ∷ 2 ∷ []) ∷ [], refl, refl)

-- five failed calls of the reader are at most five
have_failed_at_most-five : HaveFailedAtMost 5 (record { reader = 5; writer = 0; log = 3 })
have_failed_at_most-five = record { reader = omega arith; writer = omega arith; log = omega arith }

-- and more than four
have_failed_at_most-four : HaveFailedAtMost 4 (record { reader = 5; writer = 0; log = 3 }) → ⊥
have_failed_at_most-four h = omega (arith, h.reader)

-- a flush of the writer fails
ends_at_fault-flush : EndsAtFault (Passed 1 (1 ∷ []) ∷ Flush true ∷ []) [] Write
ends_at_fault-flush = record { earlier = Passed 1 (1 ∷ []) ∷ []; last = Flush true; ends = refl; failed = refl }

-- a write failed, and no fault is returned
failed_write_is_passed_over : (before after : Devices) → CountsFault {T = Unit {0}} before after (Ok tt) → after.failures.writer ≡ before.failures.writer + 1 → ⊥
failed_write_is_passed_over before after h more = absurd (omega (arith, more, h.writer))

-- a write fault is returned, and no write failed
fault_without_a_failed_call : (before after : Devices) → CountsFault {T = Unit {0}} before after (Err Write) → after.failures.writer ≡ before.failures.writer → ⊥
fault_without_a_failed_call before after h same = absurd (omega (arith, same, h.writer))
