use Rattle.std.proofs.Common.{◌∙◌, ap, drop}
use Rattle.std.proofs.lemmas.List.{drop-drop}
use Rattle.std.proofs.lemmas.Str.{IsCharBoundary-from_rest}
use Rattle.encoding_mem.proofs.codec.source.Utf8SourceSource.advance_by.Goals as goal

pub invariant_of-self-clause-offset : goal.invariant_of-self-clause-offset
invariant_of-self-clause-offset c = c.split_at.ensures.back ∙ ap (drop c.args.len) c.args.self.now.offset ∙ drop-drop c.args.len c.args.self.now.read c.args.self.now.text.now

pub invariant_of-self-clause-boundary : goal.invariant_of-self-clause-boundary
invariant_of-self-clause-boundary c = IsCharBoundary-from_rest c.args.self.now.text.now c.args.self.now.read c.args.len c.args.self.now.boundary.0 c.requires.first
