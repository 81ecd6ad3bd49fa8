use Rattle.std.proofs.Common.{◌∙◌}
use Rattle.encoding_front.specs.Encodings.{needs_of}
use Rattle.recode.specs.laws.KeptIndexes.{there_kept}
use Rattle.recode.proofs.LoadLemmas.{adds_more}
use Rattle.recode.proofs.ShellLemmas.{ok_of}
use Rattle.recode.proofs.entry.load_both.Goals as goal

pub returns-clause-from : goal.returns-clause-from
returns-clause-from g c =
    ok_of c.load_indexes-2.result (there_kept c.load_indexes.new.tables c.load_indexes-2.new.tables (needs_of c.args.from) c.load_indexes-2.ensures.files.kept c.in_ok-load_indexes.ensures.there)

pub returns-clause-once : goal.returns-clause-once
returns-clause-once g c = λ from to.
    c.load_indexes-2.ensures.once (there_kept c.args.tables.now c.load_indexes.new.tables (needs_of c.output_encoding.result) c.load_indexes.ensures.files.kept (rw c.output_encoding.ensures to)) ∙ c.load_indexes.ensures.once from

pub returns-clause-files : goal.returns-clause-files
returns-clause-files g c =
    adds_more (g.S.IndexSource.holds c.args.source.now) (g.S.IndexSource.holds c.load_indexes.new.source) (g.S.IndexSource.holds c.load_indexes-2.new.source) c.args.dir.now c.args.tables.now
    c.load_indexes.new.tables c.load_indexes-2.new.tables c.load_indexes.ensures.files c.load_indexes-2.ensures.files
