-- Which errors a walk over an input may end with.
use Rattle.std.specs.Prelude.{◌≡◌, ℕ, ◌<◌, ◌^◌, true, List, length, Option, IfSome}
use Rattle.recode_places.specs.Findings.{Asked}
use Rattle.recode_places.specs.declared.entry.Refusal.{Refusal}
use Rattle.recode_places.specs.declared.entry.Refusal.TheVariants as refusal
use Rattle.recode_places.specs.declared.entry.Stop.{Stop}
use Rattle.recode_places.specs.declared.entry.Stop.TheVariants.{Input, Log, TooLong, Unfit, Write, Memory}

-- the error that a walk ends with if its visitor takes no more
abbrev pub stop_of : Refusal → Stop
stop_of refusal.Write = Write
stop_of refusal.Memory = Memory

-- the error is that a line of the log is not of the input
abbrev pub IsUnfit : Stop → Type 0
IsUnfit (Unfit line) = Unit {0}
IsUnfit _ = ⊥

-- the error is of a log: that it cannot be read, or that a line of it is not of the input
abbrev pub IsOfLog : Stop → Type 0
IsOfLog Log = Unit {0}
IsOfLog (Unfit line) = Unit {0}
IsOfLog _ = ⊥

-- a choice goes by a log, and the error is of that log
abbrev pub IsOfItsLog : Asked → Stop → Type 0
IsOfItsLog a stop = (a.has_log ≡ true) × IsOfLog stop

-- the error is of the log, if the choice goes by one, or of the visitor
abbrev pub IsOfLogOrVisitor : Asked → Stop → Type 0
IsOfLogOrVisitor a Write = Unit {0}
IsOfLogOrVisitor a Memory = Unit {0}
IsOfLogOrVisitor a stop = IsOfItsLog a stop

-- a walk may end with this error: of a read, of the log or the visitor, or, if the input is known, of one that is too long
abbrev pub CanStopWalk : Asked → (input : Option (List ℕ)) → Stop → Type 0
CanStopWalk a input Input = Unit {0}
CanStopWalk a input TooLong = IfSome input (λ x. 2 ^ 48 < length x)
CanStopWalk a input stop = IsOfLogOrVisitor a stop
