use Rattle.std.proofs.lemmas.List.{take_rest}
use Rattle.encoding_mem.proofs.Utf16Lemmas.{past_first}
use Rattle.encoding_mem.proofs.codec.source.Utf16SourceSource.advance.Goals as goal

pub invariant_of-self-clause-boundary : goal.invariant_of-self-clause-boundary
invariant_of-self-clause-boundary c =
    past_first _ _ c.args.self.now.offset c.in-Some.n _ (take_rest c.args.self.now.units.now c.args.self.now.offset)
    c.in-Some.ensures.size c.in-Some.ensures.boundary
