use Rattle.std.proofs.Common.{◌∙◌, ap}
use Rattle.std.specs.Char.Utf16.{utf16_lossy_chars}
use Rattle.std.proofs.lemmas.List.{take_rest}
use Rattle.encoding_mem.proofs.AsciiRunLemmas.{past_units, units_some, units_longest}
use Rattle.encoding_mem.proofs.Utf16Lemmas.{past_ascii}
use Rattle.encoding_mem.proofs.codec.source.Utf16SourceSource.copy_ascii.Goals as goal

pub invariant_of-self-clause-boundary : goal.invariant_of-self-clause-boundary
invariant_of-self-clause-boundary c = past_ascii _ _ c.args.self.now.offset _ (take_rest c.args.self.now.units.now c.args.self.now.offset) c.narrow_ascii-count.ensures.ascii c.args.self.now.boundary

pub returns-clause-text : goal.returns-clause-text
returns-clause-text c =
    let n = c.narrow_ascii-count.ensures in
    past_units _ _ _ c.args.self.now.offset _ (take_rest c.args.self.now.units.now c.args.self.now.offset) n.within n.copied n.ascii

pub returns-clause-some : goal.returns-clause-some
returns-clause-some c = λ first rest at low some.
    units_some _ _ _ first rest c.narrow_ascii-count.ensures.longest (ap utf16_lossy_chars (take_rest c.args.self.now.units.now c.args.self.now.offset) ∙ at) low some

pub returns-clause-longest : goal.returns-clause-longest
returns-clause-longest c = λ short first rest begins.
    units_longest _ _ c.args.self.now.offset _ _ first rest (take_rest c.args.self.now.units.now c.args.self.now.offset) short c.narrow_ascii-count.ensures.longest begins
