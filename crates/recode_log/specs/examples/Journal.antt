-- Worked rows of `specs/Journal.antt` and `specs/Ports.antt`.
use Rattle.std.proofs.Common.{◌≡◌, ℕ, List, [], ◌∷◌, false, refl}
use Rattle.std.specs.Borrow.{MutBor}
use Rattle.recode_log.specs.Call.{Call, Failed, Flush, Passed}
use Rattle.recode_log.specs.Journal.{AtLog, AtReader, AtWriter, Entry, log_calls, reader_calls, writer_calls}
use Rattle.recode_log.specs.Ports.{CallsWriter}
use Rattle.recode_log.specs.declared.counted.Counted.{Counted}
use Rattle.recode_log.specs.declared.ports.Ports.{Ports}

-- a read of a byte, a write of it, a write of the log that fails, and a read
abbrev entries : List Entry
entries = AtReader (Passed 4 (1 ∷ [])) ∷ AtWriter (Passed 1 (1 ∷ [])) ∷ AtLog (Failed 3) ∷ AtReader (Passed 4 []) ∷ []

reader_calls-two : reader_calls entries ≡ Passed 4 (1 ∷ []) ∷ Passed 4 [] ∷ []
reader_calls-two = refl

writer_calls-one : writer_calls entries ≡ Passed 1 (1 ∷ []) ∷ []
writer_calls-one = refl

log_calls-one : log_calls entries ≡ Failed 3 ∷ []
log_calls-one = refl

-- a device with these calls, of no matter what kind
abbrev counted : List Call → Counted ℕ
counted calls = record { recorded = record { inner = 0; history = record { calls = calls } }; failures = 0 }

-- a reference to it, under a name
abbrev lent : ℕ → List Call → MutBor (Counted ℕ)
lent name calls = record { ref_ptr = (0, 0); ghost_name = name; now = counted calls }

-- three devices of which none was called, and then the writer was, by a flush
abbrev none_called : Ports ℕ ℕ ℕ
none_called = record { reader = lent 0 []; writer = lent 1 []; log = lent 2 []; journal = record { entries = [] }; of_reader = refl; of_writer = refl; of_log = refl }

abbrev flushed : Ports ℕ ℕ ℕ
flushed = record { reader = lent 0 []; writer = lent 1 (Flush false ∷ []); log = lent 2 []; journal = record { entries = AtWriter (Flush false) ∷ [] }; of_reader = refl; of_writer = refl; of_log = refl }

calls_writer-flush : CallsWriter none_called flushed
calls_writer-flush = record { calls = Flush false ∷ []; made = refl; same = record { reader = refl; writer = refl; log = refl }; reader = refl; log = refl }
