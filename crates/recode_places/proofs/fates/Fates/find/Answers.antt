use Rattle.std.proofs.Common.{◌∙◌}
use Rattle.recode_places.specs.calls.FatesViews.{fates_target}
use Rattle.recode_places.proofs.FateLemmas.{found_lost, found_read, read_folded, read_kept, read_none}
use Rattle.recode_places.proofs.fates.Fates.find.Goals as goal

pub returns-in_default : goal.returns-in_default
returns-in_default c = found_lost (fates_target c.args.self.now) c.args.c _ c.write.result c.in_default.is c.write.ensures.written

pub returns-in-Some-read : goal.returns-in-Some-read
returns-in-Some-read c =
    read_kept c.args.c c.in-Some-read.d c.read.result c.in-Some-read.is c.if-d-c.true
    ∙ found_read (fates_target c.args.self.now) c.args.c _ c.in-Some.written c.read.result c.in-Some.ensures.written c.read.ensures

pub returns-in-Some-2 : goal.returns-in-Some-2
returns-in-Some-2 c =
    read_folded c.args.c c.in-Some-read.d c.read.result c.in-Some-read.is c.if-d-c.false
    ∙ found_read (fates_target c.args.self.now) c.args.c _ c.in-Some.written c.read.result c.in-Some.ensures.written c.read.ensures

pub returns-in-None : goal.returns-in-None
returns-in-None c =
    read_none c.args.c c.read.result c.in-None.is
    ∙ found_read (fates_target c.args.self.now) c.args.c _ c.in-Some.written c.read.result c.in-Some.ensures.written c.read.ensures
