use Rattle.std.proofs.lemmas.List.{take_rest}
use Rattle.encoding_mem.proofs.UnitsTextLemmas.{past_copied, prefix_copied, copied_from}
use Rattle.encoding_mem.proofs.codec.source.Utf16SourceSource.copy_text.Goals as goal

pub invariant_of-self-clause-boundary : goal.invariant_of-self-clause-boundary
invariant_of-self-clause-boundary c =
    let units = c.args.self.now.units.now in
    let read = c.convert_utf16_to_utf8_partial-read.ensures in
    past_copied units _ _ c.args.self.now.offset c.convert_utf16_to_utf8_partial-read.result.0 (take_rest units c.args.self.now.offset) c.args.self.now.boundary
    (prefix_copied _ _ _ read.longest.whole read.text)

pub returns-clause-text : goal.returns-clause-text
returns-clause-text c =
    let units = c.args.self.now.units.now in
    let read = c.convert_utf16_to_utf8_partial-read.ensures in
    copied_from units _ _ c.args.self.now.offset c.convert_utf16_to_utf8_partial-read.result.0 (take_rest units c.args.self.now.offset)
    (prefix_copied _ _ _ read.longest.whole read.text)
