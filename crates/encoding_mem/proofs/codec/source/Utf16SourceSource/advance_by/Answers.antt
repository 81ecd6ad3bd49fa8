use Rattle.std.proofs.Common.{refl}
use Rattle.encoding_mem.proofs.Utf16Lemmas.{past_first}
use Rattle.encoding_mem.proofs.codec.source.Utf16SourceSource.advance_by.Goals as goal

pub invariant_of-self-clause-boundary : goal.invariant_of-self-clause-boundary
invariant_of-self-clause-boundary c =
    past_first _ _ c.args.self.now.offset c.args.len c.requires.next.0 refl c.requires.next.2 c.requires.first
