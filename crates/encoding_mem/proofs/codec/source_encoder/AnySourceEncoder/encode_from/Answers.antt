use Rattle.std.proofs.Common.{◌≡◌, ◌∙◌, ap, subst}
use Rattle.encoding_mem.specs.calls.EncoderRule.{EncoderParts, Moves}
use Rattle.encoding_mem.specs.declared.codec.form.EscapeState.{EscapeState}
use Rattle.encoding_mem.specs.laws.EncoderCalls.{encoded_moves}
use Rattle.encoding_mem.proofs.codec.source_encoder.AnySourceEncoder.encode_from.Goals as goal

pub returns-clause-call : goal.returns-clause-call
returns-clause-call g c =
    let old = g.R.EncoderRule.parts c.args.self.now in
    let moves : Moves old.coding old.set c.encode-result.new.set =
    subst (λ s. Moves old.coding s c.encode-result.new.set) c.current_set-set.ensures (encoded_moves _ _ _ _ _ _ _ _ c.encode-result.ensures.call.law) in
    let in_set = λ (s : EscapeState). let e : EncoderParts = record old { set = s } in e in
    let new : g.R.EncoderRule.parts c.enter.new.self ≡ in_set c.encode-result.new.set = c.enter.ensures.same ∙ ap in_set (c.enter.ensures.set moves) in
    rw (new, c.encode-result.ensures.source) (rw c.current_set-set.ensures at c.encode-result.ensures.call)
