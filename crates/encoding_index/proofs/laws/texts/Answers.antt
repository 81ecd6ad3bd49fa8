use Rattle.encoding_index.proofs.RowLemmas.{lists_are_of_rows}
use Rattle.encoding_index.proofs.FaultLemmas.{faults_are_first}
use Rattle.encoding_index.proofs.LineLemmas.{row_in-written}
use Rattle.encoding_index.proofs.StartLemmas.{written-row_in}
use Rattle.encoding_index.proofs.laws.texts.Goals as goal

pub returns-clause-rows : goal.returns-clause-rows
returns-clause-rows c = λ line pointer code. (written-row_in line pointer code, row_in-written line pointer code)

pub returns-clause-faults : goal.returns-clause-faults
returns-clause-faults c = faults_are_first

pub returns-clause-lists : goal.returns-clause-lists
returns-clause-lists c = lists_are_of_rows
