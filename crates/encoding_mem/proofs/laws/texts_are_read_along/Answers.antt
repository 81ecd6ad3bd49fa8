use Rattle.encoding_mem.specs.laws.ReadCalls.{begins_along, next_along, ends_along}
use Rattle.encoding_mem.proofs.laws.texts_are_read_along.Goals as goal

pub returns-clause-begins : goal.returns-clause-begins
returns-clause-begins c need e pieces_from coding = begins_along e pieces_from coding

pub returns-clause-next : goal.returns-clause-next
returns-clause-next c = next_along

pub returns-clause-ends : goal.returns-clause-ends
returns-clause-ends c ref need e coding = ends_along ref e coding
