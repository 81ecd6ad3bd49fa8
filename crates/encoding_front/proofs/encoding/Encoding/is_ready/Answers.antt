use Rattle.encoding_front.specs.Encodings.{needs_of}
use Rattle.encoding_front.proofs.EncodingLemmas.{all_there}
use Rattle.encoding_front.proofs.encoding.Encoding.is_ready.Goals as goal

pub returns-clause-ready : goal.returns-clause-ready
returns-clause-ready c = all_there c.args.tables.now (needs_of c.args.self) c.are_there.result cc
