-- Worked rows of `specs/Stops.antt`.
use Rattle.std.proofs.Common.{◌≡◌, ℕ, ◌^◌, ◌+◌, false, true, None, Some, List, [], ◌∷◌, ap, arith, length, refl}
use Rattle.std.specs.Io.KnownBytes.{IsAtEnd}
use Rattle.std.proofs.lemmas.Bool.{false≢true}
use Rattle.recode_places.specs.Findings.{Asked}
use Rattle.recode_places.specs.Stops.{CanStopWalk, IsOfLogOrVisitor}
use Rattle.recode_places.specs.declared.entry.Stop.TheVariants.{Log, TooLong, Unfit, Write}

-- no log is asked
abbrev no_log : Asked
no_log = record { has_log = false; target = None; folds = false }

-- a log is asked
abbrev by_log : Asked
by_log = record { has_log = true; target = None; folds = false }

-- refuted: without a log, the error is that a line of it is not of the input
of_no_log : ¬ (IsOfLogOrVisitor no_log (Unfit 1))
of_no_log h = false≢true h.0

-- refuted: without a log, the error is that it cannot be read
of_unread : ¬ (IsOfLogOrVisitor no_log Log)
of_unread h = false≢true h.0

of_log : IsOfLogOrVisitor by_log (Unfit 1)
of_log = (refl, tt)

of_write : CanStopWalk no_log None Write
of_write = tt

-- refuted: an input of 2^48 bytes is too long
of_longest : (x : List ℕ) → length x ≡ 2 ^ 48 → ¬ (CanStopWalk no_log (Some x) TooLong)
of_longest x size h = omega (arith, size, h)

-- one byte more is too much
of_longer : (x : List ℕ) → length x ≡ 2 ^ 48 + 1 → CanStopWalk no_log (Some x) TooLong
of_longer x size = omega (arith, size)

-- refuted: a walk succeeds, and a byte of the input is not read
of_unread_byte : IsAtEnd (Some (0x61 ∷ [])) → ⊥
of_unread_byte h = omega (arith, ap length h)
