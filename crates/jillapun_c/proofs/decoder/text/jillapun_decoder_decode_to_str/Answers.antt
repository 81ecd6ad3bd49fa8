use Rattle.std.proofs.Common.{◌-◌, ap, sym, ◌∙◌, arith, length-drop}
use Rattle.std.proofs.Props.{props}
use Rattle.jillapun_c.proofs.TextDecodeLemmas.{decodes_over, if_done, not_done}
use Rattle.jillapun_c.proofs.decoder.text.jillapun_decoder_decode_to_str.Goals as goal

pub returns-then-status-ne-OK-clause-decodes : goal.returns-then-status-ne-OK-clause-decodes
returns-then-status-ne-OK-clause-decodes c = not_done _ _ _ _ c.jillapun_decoder_decode_to_utf8-status.ensures.decodes c.if-status-ne-OK.true

pub clear_rest-requires : goal.clear_rest-requires
clear_rest-requires c =
    if_done _ _ _ _ (hlevel props) c.jillapun_decoder_decode_to_utf8-status.ensures.decodes c.if-status-ne-OK.false
    (λ v did. omega (arith, did.call.law.writes.within, c.jillapun_decoder_decode_to_utf8-status.auto.dst))

pub returns-clause-decodes : goal.returns-clause-decodes
returns-clause-decodes c =
    let w = c.jillapun_decoder_decode_to_utf8-status.new.progress.written in
    decodes_over _ _ _ _ _ c.args.dst.now c.jillapun_decoder_decode_to_utf8-status.new.dst c.clear_rest.new.dst _ _ _ c.jillapun_decoder_decode_to_utf8-status.new.progress c.clear_rest.ensures.put
    (length-drop w c.jillapun_decoder_decode_to_utf8-status.new.dst ∙ ap (λ n. n - w) (sym c.clear_rest.auto.dst) ∙ sym (length-drop w c.clear_rest.new.dst)) c.jillapun_decoder_decode_to_utf8-status.ensures.decodes
