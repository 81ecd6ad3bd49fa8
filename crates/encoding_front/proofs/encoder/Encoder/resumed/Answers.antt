use Rattle.std.proofs.Common.{◌≡◌, ◌∙◌, sym, subst, ap}
use Rattle.std.proofs.Props.{props}
use Rattle.std.proofs.Math.Logic.{∥∥₁_elim}
use Rattle.encoding_mem.specs.Coding.{Coding}
use Rattle.encoding_mem.specs.calls.EncoderRule.{EncoderParts, Moves}
use Rattle.encoding_mem.specs.declared.codec.form.EscapeState.{EscapeState}
use Rattle.encoding_front.specs.Codecs.{codec_of}
use Rattle.encoding_front.specs.EncodingTable.{codec_kind_of}
use Rattle.encoding_front.specs.Encodings.{coding_of, lists_of}
use Rattle.encoding_front.specs.laws.Encoder.{output_twice}
use Rattle.encoding_front.specs.contracts.variant_encoder.VariantEncoderSourceEncoder.TheImpl.{parts-value}
use Rattle.encoding_front.proofs.encoder.Encoder.resumed.Goals as goal

pub returns : goal.returns
returns c =
    let t = lists_of c.args.tables in
    let e = c.args.saved.encoding in
    let s = c.args.saved.set in
    let new : EncoderParts = (parts-value).it c.new-variant.result in
    let coding : new.coding ≡ coding_of t e =
    c.new-variant.ensures.coding ∙ ap (coding_of t) c.output_encoding-encoding.ensures ∙ ap (λ x. (codec_of t (codec_kind_of x)).coding) (output_twice e) in
    let entered : ((parts-value).it c.enter.new.self).set ≡ s = ∥∥₁_elim c.requires.set (hlevel props) (λ moves. c.enter.ensures.set
    (subst (λ (x : Coding). Moves x new.set s) (sym coding) (subst (λ (q : EscapeState). Moves (coding_of t e) q s) (sym c.new-variant.ensures.set) moves))) in
    λ i. record { tables = t; encoding = c.output_encoding-encoding.ensures i; set = entered i }
