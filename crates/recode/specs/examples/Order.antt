-- Worked rows of `specs/Order.antt`, and of what was taken in one order.
use Rattle.std.proofs.Common.{◌≡◌, ◌∙◌, List, [], ◌∷◌, ap, false, refl}
use Rattle.recode_log.specs.Call.{Failed, Flush, Passed}
use Rattle.recode_log.specs.Journal.{AtLog, AtReader, AtWriter, Entry, reader_calls}
use Rattle.recode.specs.Order.{StepsInOrder, given_by}
use Rattle.recode.specs.TaggedByte.{Line, Out, order_of}

-- a read gives two bytes, one is written, a write of the log takes one and the next fails, a write of the output takes
-- one, and a read fails
abbrev calls : List Entry
calls = AtReader (Passed 4 (1 ∷ 2 ∷ [])) ∷ AtWriter (Passed 1 (1 ∷ [])) ∷ AtLog (Passed 2 (9 ∷ [])) ∷ AtLog (Failed 1) ∷ AtWriter (Passed 1 (2 ∷ [])) ∷ AtReader (Failed 4) ∷ []

order_of-calls : order_of calls ≡ Out 1 ∷ Line 9 ∷ Out 2 ∷ []
order_of-calls = refl

given_by-calls : given_by calls ≡ 1 ∷ 2 ∷ []
given_by-calls = refl

-- a flush takes nothing
order_of-flush : order_of (AtWriter (Flush false) ∷ []) ≡ []
order_of-flush = refl

-- a step: a read, and then writes
steps_in_order-one : StepsInOrder [] (AtReader (Passed 4 (1 ∷ [])) ∷ AtWriter (Passed 1 (1 ∷ [])) ∷ [])
steps_in_order-one = record { call = Passed 4 (1 ∷ []); writes = AtWriter (Passed 1 (1 ∷ [])) ∷ []; made = refl; unread = refl }

-- two reads are no step
steps_in_order-two_reads : StepsInOrder [] (AtReader (Passed 4 (1 ∷ [])) ∷ AtReader (Failed 4) ∷ []) → ⊥
steps_in_order-two_reads h =
    let rest : AtReader (Failed 4) ∷ [] ≡ h.writes = cc h.made in
    let none : reader_calls (AtReader (Failed 4) ∷ []) ≡ [] = ap reader_calls rest ∙ h.unread in
    absurd (cc none)
