use Rattle.std.proofs.Common.{[], inl, refl}
use Rattle.recode_log.specs.Line.{line_bytes}
use Rattle.recode_log.specs.declared.line.LogLine.TheVariants as line
use Rattle.recode_places.proofs.FateLemmas.{named_fold}
use Rattle.recode_places.proofs.choice.Choice.character.Goals as goal

pub returns-in-Lost-clause-named : goal.returns-in-Lost-clause-named
returns-in-Lost-clause-named g c = (line_bytes (line.Lost c.args.index c.args.c), rw c.in-None.is tt, (c.args.c, inl refl, refl))

pub returns-in-Folded-fate-clause-named : goal.returns-in-Folded-fate-clause-named
returns-in-Folded-fate-clause-named g c = ([], rw c.in-None.is tt, named_fold c.args.index c.args.c _ c.in-Folded-fate.becomes _ c.fold-in-Folded-fate.ensures)
