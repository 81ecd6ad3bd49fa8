use Rattle.encoding_mem.proofs.AsciiRunLemmas.{past_run, past_boundary}
use Rattle.encoding_mem.proofs.codec.source.Utf8SourceSource.copy_text.Goals as goal

pub invariant_of-self-clause-offset : goal.invariant_of-self-clause-offset
invariant_of-self-clause-offset c = past_run _ _ _ _ _ c.args.self.now.offset c.whole_characters.ensures.bytes

pub invariant_of-self-clause-boundary : goal.invariant_of-self-clause-boundary
invariant_of-self-clause-boundary c = past_boundary _ _ _ _ c.args.self.now.boundary.0 c.args.self.now.offset c.whole_characters.ensures.boundary
