use Rattle.std.proofs.Common.{sym, subst}
use Rattle.encoding_front.specs.calls.DecoderViews.{decoder_view}
use Rattle.jillapun_c.specs.Whole.{DecodesPart}
use Rattle.jillapun_c.specs.declared.whole.decoding.End.{End}
use Rattle.jillapun_c.proofs.WholeLemmas.{raw_part, text_part}
use Rattle.jillapun_c.proofs.whole.decoding.decode_part.Goals as goal

pub returns-then-replaces-clause-call : goal.returns-then-replaces-clause-call
returns-then-replaces-clause-call c =
    let d = c.decode_to_utf8-outcome in
    let part = text_part (decoder_view c.args.decoder.now) (decoder_view d.new.self) c.args.src.now c.args.room.now d.new.dst d.result.0 d.result.1 d.result.2 d.result.3 d.auto.dst d.ensures.call in
    subst (λ (e : End). DecodesPart (decoder_view c.args.decoder.now) (decoder_view d.new.self) c.args.src.now c.args.room.now d.new.dst (record { end = e; read = d.result.1; written = d.result.2; had_errors = d.result.3 })) (sym c.of_text-end.ensures) part

pub returns-clause-call : goal.returns-clause-call
returns-clause-call c =
    let d = c.decode_to_utf8_without_replacement-outcome in
    let part = raw_part (decoder_view c.args.decoder.now) (decoder_view d.new.self) c.args.src.now c.args.room.now d.new.dst d.result.0 d.result.1 d.result.2 d.auto.dst d.ensures.call in
    rw (c.is_malformed-had_errors.ensures, c.of-end.ensures) part
