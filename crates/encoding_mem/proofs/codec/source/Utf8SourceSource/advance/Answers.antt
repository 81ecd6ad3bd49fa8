use Rattle.encoding_mem.proofs.EncoderCallLemmas.{past_char, boundary_past}
use Rattle.encoding_mem.proofs.codec.source.Utf8SourceSource.advance.Goals as goal

pub invariant_of-self-clause-offset : goal.invariant_of-self-clause-offset
invariant_of-self-clause-offset c = past_char _ _ _ _ _ _ c.args.self.now.offset c.in-Some.ensures.bytes c.len_utf8.ensures.value

pub invariant_of-self-clause-boundary : goal.invariant_of-self-clause-boundary
invariant_of-self-clause-boundary c = boundary_past _ _ _ c.in-Some.c _ c.args.self.now.boundary.0 c.args.self.now.offset c.len_utf8.ensures.value c.in-Some.ensures.boundary
