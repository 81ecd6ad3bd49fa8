use Rattle.std.proofs.Common.{◌∙◌, sym}
use Rattle.encoding_tables.specs.FileNames.{file_name_of}
use Rattle.recode.specs.Program.{CanHold, FileTexts}
use Rattle.recode.proofs.LoadLemmas.{load_adds, load_adds_only, load_met_no_fault, loaded_there}
use Rattle.recode.proofs.indexes.load_index.Goals as goal

pub returns-in-Ok-load-clause-there : goal.returns-in-Ok-load-clause-there
returns-in-Ok-load-clause-there g c = loaded_there c.load.new.tables c.args.kind c.deref.result.now c.in-Ok-load.ensures.loaded

pub returns-in-Ok-load-clause-files : goal.returns-in-Ok-load-clause-files
returns-in-Ok-load-clause-files g c =
    let holds : FileTexts = g.S.IndexSource.holds c.args.source.now in
    let told : CanHold (holds c.args.dir.now (file_name_of c.args.kind)) c.deref.result.now =
    rw (← c.file_name-file.ensures, c.deref.ensures.value) c.in-Ok.ensures.text in
    load_adds holds (g.S.IndexSource.holds c.read_file.new.self) c.args.dir.now c.args.tables.now c.load.new.tables c.args.kind c.deref.result.now
    c.read_file.ensures.files told (load_met_no_fault c.args.tables.now c.args.kind c.deref.result.now c.load.result _ _ c.in-Ok-load.is c.load.ensures.fault)
    (sym c.has.ensures ∙ c.if-has.false) c.in-Ok-load.ensures.loaded c.load.ensures.others

pub returns-in-Ok-load-clause-added : goal.returns-in-Ok-load-clause-added
returns-in-Ok-load-clause-added g c = load_adds_only c.args.tables.now c.load.new.tables c.args.kind c.load.ensures.others
