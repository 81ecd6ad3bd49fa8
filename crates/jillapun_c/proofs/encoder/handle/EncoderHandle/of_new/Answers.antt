use Rattle.std.proofs.Common.{Some, ap, ◌∙◌}
use Rattle.encoding_mem.specs.declared.codec.form.EscapeState.TheVariants.{Ascii}
use Rattle.jillapun_c.specs.EncoderWords.{saved_with}
use Rattle.jillapun_c.proofs.EncoderHandleLemmas.{new_are_sound, new_is}
use Rattle.jillapun_c.proofs.encoder.handle.EncoderHandle.of_new.Goals as goal

pub invariant_of-result : goal.invariant_of-result
invariant_of-result c =
    record { sound = ∣ new_are_sound c.args.tables.tables c.of-words.result c.args.encoding (c.of-words.ensures ∙ ap (λ e. Some (saved_with e Ascii)) c.output_encoding.ensures) c.requires ∣₁ }

pub returns : goal.returns
returns c = new_is c.args.tables.tables c.of-words.result c.args.encoding (c.of-words.ensures ∙ ap (λ e. Some (saved_with e Ascii)) c.output_encoding.ensures)
