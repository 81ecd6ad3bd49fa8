use Rattle.jillapun_c.proofs.IndexFileLemmas.{one_more, all_of_them, refused_at}
use Rattle.jillapun_c.proofs.index_files.load_files.Goals as goal

pub loop-number-init : goal.loop-number-init
loop-number-init c = c.requires

pub returns-in-Err-clause-refused : goal.returns-in-Err-clause-refused
returns-in-Err-clause-refused c =
    refused_at c.args.files.now c.loop-number.number _ c.loop-number.tables c.in-Err.fault c.loop-number-test.true c.loop-number.invariant c.in-Err.ensures.fault

pub loop-number-preserved : goal.loop-number-preserved
loop-number-preserved c =
    one_more c.file_names.ensures c.args.files.now c.loop-number.number _ c.loop-number.tables c.load_file.new.tables c.loop-number-test.true c.loop-number.invariant c.in_default.ensures.adds

pub returns-clause-holds : goal.returns-clause-holds
returns-clause-holds c = all_of_them c.args.files.now c.loop-number.number c.loop-number.tables c.loop-number-test.false c.loop-number.invariant
