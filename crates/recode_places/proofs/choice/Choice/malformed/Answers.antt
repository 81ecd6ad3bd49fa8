use Rattle.std.proofs.Common.{inl, refl}
use Rattle.recode_log.specs.Line.{line_bytes}
use Rattle.recode_log.specs.declared.line.LogLine.TheVariants as line
use Rattle.recode_places.proofs.choice.Choice.malformed.Goals as goal

pub returns-in-None-clause-named : goal.returns-in-None-clause-named
returns-in-None-clause-named g c = (line_bytes (line.Bad c.args.offset c.args.length), rw c.in-None.is tt, inl refl)
