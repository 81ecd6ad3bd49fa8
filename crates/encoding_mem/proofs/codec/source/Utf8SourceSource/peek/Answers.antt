use Rattle.std.proofs.Common.{◌∙◌, ap, sym, ◌∷◌, arith}
use Rattle.std.specs.Str.{chars}
use Rattle.encoding_mem.proofs.EncoderCallLemmas.{char_len, past_char, boundary_past, first_boundary}
use Rattle.encoding_mem.proofs.codec.source.Utf8SourceSource.peek.Goals as goal

pub returns-in-Some-clause-next : goal.returns-in-Some-clause-next
returns-in-Some-clause-next c = ap chars (sym c.args.self.now.offset) ∙ c.in-Some.ensures.chars
    ∙ ap (λ l. c.in-Some.c ∷ chars l) (past_char _ _ _ _ _ _ c.args.self.now.offset c.in-Some.ensures.bytes (char_len _ _ _ c.in-Some.ensures.bytes))

pub returns-in-Some-clause-boundary : goal.returns-in-Some-clause-boundary
returns-in-Some-clause-boundary c = boundary_past _ _ _ c.in-Some.c _ c.args.self.now.boundary.0 c.args.self.now.offset (char_len _ _ _ c.in-Some.ensures.bytes) c.in-Some.ensures.boundary

pub returns-in-Some-clause-first : goal.returns-in-Some-clause-first
returns-in-Some-clause-first c = first_boundary c.args.self.now.text.now _ _ c.args.self.now.read _ c.args.self.now.offset c.in-Some.ensures.bytes c.in-Some.ensures.boundary

pub returns-in-Some-clause-size : goal.returns-in-Some-clause-size
returns-in-Some-clause-size c = (omega (arith, c.args.self.now.sum), char_len _ _ _ c.in-Some.ensures.bytes)
