use Rattle.std.proofs.Common.{Some, ap, ◌∙◌}
use Rattle.jillapun_c.specs.Coders.{encoder_in}
use Rattle.jillapun_c.specs.EncoderWords.{GoesOnAs}
use Rattle.jillapun_c.proofs.EncoderHandleLemmas.{kept_is, kept_sound, there}
use Rattle.jillapun_c.proofs.encoder.handle.EncoderHandle.keep.Goals as goal

pub invariant_of-self : goal.invariant_of-self
invariant_of-self c =
    let h = c.args.self.now in
    let x' = c.args.encoder.now in
    let k = there (encoder_in h) (λ x. GoesOnAs x x') c.requires in
    record { sound = kept_sound h.tables.tables h.words c.of-self.result k.0 x' k.1 k.2 (c.of-self.ensures ∙ ap Some c.saved.ensures) h.sound }

pub returns : goal.returns
returns c =
    let h = c.args.self.now in
    let x' = c.args.encoder.now in
    let k = there (encoder_in h) (λ x. GoesOnAs x x') c.requires in
    kept_is h.tables.tables h.words c.of-self.result k.0 x' k.1 k.2 (c.of-self.ensures ∙ ap Some c.saved.ensures)
