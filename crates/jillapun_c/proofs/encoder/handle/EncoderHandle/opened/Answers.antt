use Rattle.std.proofs.Common.{Some, sym, ap, ◌∙◌, subst}
use Rattle.encoding_mem.specs.calls.EncoderRule.{Moves}
use Rattle.encoding_mem.specs.declared.codec.form.EscapeState.TheVariants.{Ascii}
use Rattle.encoding_front.specs.Encodings.{IsReady, coding_of, output_encoding_of}
use Rattle.encoding_front.specs.calls.Encoder.{new_state}
use Rattle.jillapun_c.proofs.EncoderHandleLemmas.{held_ready, held_set, resumed_is}
use Rattle.jillapun_c.proofs.encoder.handle.EncoderHandle.opened.Goals as goal

pub resumed-requires-clause-ready : goal.resumed-requires-clause-ready
resumed-requires-clause-ready c =
    let h = c.args.self.now in
    subst (λ t. IsReady t (output_encoding_of c.in_ok-saved.saved.encoding)) (sym c.lent.ensures.lists) (held_ready h.tables.tables h.words c.in_ok-saved.saved (sym c.in_ok-saved.ensures) h.sound)

pub resumed-requires-clause-set : goal.resumed-requires-clause-set
resumed-requires-clause-set c =
    let h = c.args.self.now in
    let saved = c.in_ok-saved.saved in
    subst (λ t. ∥ Moves (coding_of t saved.encoding) Ascii saved.set ∥₁) (sym c.lent.ensures.lists) (held_set h.tables.tables h.words saved (sym c.in_ok-saved.ensures) h.sound)

pub returns : goal.returns
returns c =
    let h = c.args.self.now in
    let saved = c.in_ok-saved.saved in
    ap Some c.resumed.ensures ∙ ap (λ t. Some (record (new_state t saved.encoding) { set = saved.set })) c.lent.ensures.lists
    ∙ resumed_is h.tables.tables h.words saved (sym c.in_ok-saved.ensures) h.sound
