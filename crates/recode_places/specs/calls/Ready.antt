-- Facts that have one proof at most, so that a struct can say them of itself.
use mathlib.Core.HLevel.{Unit-prop}
use Rattle.std.proofs.Props.{props}
use Rattle.recode_log.specs.declared.line.LogLine.{LogLine}
use Rattle.recode_log.specs.declared.line.LogLine.TheVariants.{Bad, Lost}
use Rattle.recode_places.specs.Logs.{CanBeLogged}
use Rattle.recode_places.specs.declared.log_lines.NextLine.{NextLine}
use Rattle.recode_places.specs.declared.log_lines.NextLine.TheVariants.{Line, End, Other}

-- a line that was read can be logged
abbrev pub IsLineIfAny : NextLine → Type 0
IsLineIfAny (Line l) = CanBeLogged l
IsLineIfAny End = Unit {0}
IsLineIfAny Other = Unit {0}

CanBeLogged-prop : (l : LogLine) → IsProp (CanBeLogged l)
CanBeLogged-prop (Bad offset n) = hlevel props
CanBeLogged-prop (Lost index c) = hlevel props

pub IsLineIfAny-prop : (n : NextLine) → IsProp (IsLineIfAny n)
IsLineIfAny-prop (Line l) = CanBeLogged-prop l
IsLineIfAny-prop End = Unit-prop
IsLineIfAny-prop Other = Unit-prop
