use Rattle.encoding_mem.specs.laws.Agreement.{broken_never_reads, broken_stays}
use Rattle.encoding_front.specs.laws.Encodings.{agrees_or_breaks}
use Rattle.recode.specs.Job.{output_pieces}
use Rattle.recode.proofs.laws.read_back.Goals as goal

pub returns : goal.returns
returns c = record {
  texts = λ j v. agrees_or_breaks j.tables.now j.to v.tables;
  stays = λ j bytes t more u. broken_stays (output_pieces j) bytes t more u;
  never = λ j bytes t. broken_never_reads (output_pieces j) bytes t;
}
