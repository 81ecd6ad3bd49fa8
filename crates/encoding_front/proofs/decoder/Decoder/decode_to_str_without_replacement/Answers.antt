use Rattle.std.proofs.Common.{◌-◌, ap, sym, ◌∙◌, arith, length-drop, encode_utf8_all}
use Rattle.encoding_mem.specs.Piece.{scalars}
use Rattle.encoding_front.specs.calls.DecoderViews.{decoder_view}
use Rattle.encoding_front.proofs.DestinationLemmas.{scalars_are, scalars_into, added, kept, overwrites}
use Rattle.encoding_front.proofs.decoder.Decoder.decode_to_str_without_replacement.Goals as goal

pub clear_behind-requires : goal.clear_behind-requires
clear_behind-requires c = omega (arith, c.decode_to_utf8_without_replacement-outcome.ensures.call.law.writes.within, c.decode_to_utf8_without_replacement-outcome.auto.dst)

pub returns-clause-call : goal.returns-clause-call
returns-clause-call c =
    let call = c.decode_to_utf8_without_replacement-outcome in
    let w = call.result.2 in
    scalars_into _ _ _ _ _ _ _ _ _ _ _ (λ t h. overwrites c.args.dst.now (encode_utf8_all t) call.new.dst c.clear_behind.new.dst _ c.clear_behind.ensures.prefix c.clear_behind.ensures.behind h)
    (length-drop w call.new.dst ∙ ap (λ n. n - w) (sym c.clear_behind.auto.dst) ∙ sym (length-drop w c.clear_behind.new.dst)) call.ensures.call

pub returns-clause-utf8 : goal.returns-clause-utf8
returns-clause-utf8 c =
    let law = c.decode_to_utf8_without_replacement-outcome.ensures.call.law in
    c.clear_behind.ensures.utf8 (scalars law.taken) c.args.dst.now (scalars_are _ (decoder_view c.args.self.now).state _ _ _ _ _ _ _ law) c.requires.utf8 (added _ _ _ _ law.writes) (kept _ _ _ _ law.writes)
