use Rattle.std.proofs.lemmas.List.{take_rest}
use Rattle.encoding_mem.proofs.Utf16Lemmas.{past_next}
use Rattle.encoding_mem.proofs.codec.source.Utf16SourceSource.peek.Goals as goal

pub returns-clause-boundary : goal.returns-clause-boundary
returns-clause-boundary c =
    past_next _ _ c.args.self.now.offset c.first_of_units.result (take_rest c.args.self.now.units.now c.args.self.now.offset)
    c.first_of_units.ensures.size c.first_of_units.ensures.boundary
