use Rattle.std.proofs.lemmas.Str.{IsCharBoundary-start}
use Rattle.encoding_mem.proofs.codec.source.Utf8Source.new.Goals as goal

pub invariant_of-result-clause-boundary : goal.invariant_of-result-clause-boundary
invariant_of-result-clause-boundary c = IsCharBoundary-start _ c.utf8.text
