use Rattle.encoding_front.specs.Encodings.{needs_of}
use Rattle.recode.specs.laws.KeptIndexes.{there_kept}
use Rattle.recode_places_cli.proofs.program.run.Goals as goal

pub tell-requires-2 : goal.tell-requires-2
tell-requires-2 g c =
    there_kept c.load_indexes.new.tables c.load_indexes-2.new.tables (needs_of c.in_ok-from.from) c.load_indexes-2.ensures.files.kept c.in_ok-load_indexes.ensures.there
