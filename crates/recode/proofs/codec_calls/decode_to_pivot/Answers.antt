use Rattle.std.proofs.Common.{arith}
use Rattle.recode.proofs.CodecCallLemmas.{ends_of, written_prefix, written_to, written_within}
use Rattle.recode.proofs.codec_calls.decode_to_pivot.Goals as goal

pub returns-in-Utf8-clause-law : goal.returns-in-Utf8-clause-law
returns-in-Utf8-clause-law g c =
    let call = c.decode_to_bytes-answer in
    written_to (g.D.StreamDecoder.view c.args.decoder.now).state (g.D.StreamDecoder.view call.new.decoder).state _ _ _ _ _ _ call.ensures.call.law
    (λ t w. (written_within _ _ _ _ call.auto.dst w, written_prefix _ _ _ _ w))

pub returns-in-Utf8-clause-ends : goal.returns-in-Utf8-clause-ends
returns-in-Utf8-clause-ends g c =
    let call = c.decode_to_bytes-answer in
    ends_of (g.D.StreamDecoder.view call.new.decoder).state _ _ _ _ _ _ _ call.ensures.call.ends (let h = rw c.in-Utf8.is at c.requires.pivot in omega (arith, call.auto.dst, h))

pub returns-in-Utf16-clause-law : goal.returns-in-Utf16-clause-law
returns-in-Utf16-clause-law g c =
    let call = c.decode_to_units-answer in
    written_to (g.D.StreamDecoder.view c.args.decoder.now).state (g.D.StreamDecoder.view call.new.decoder).state _ _ _ _ _ _ call.ensures.call.law
    (λ t w. (written_within _ _ _ _ call.auto.dst w, written_prefix _ _ _ _ w))

pub returns-in-Utf16-clause-ends : goal.returns-in-Utf16-clause-ends
returns-in-Utf16-clause-ends g c =
    let call = c.decode_to_units-answer in
    ends_of (g.D.StreamDecoder.view call.new.decoder).state _ _ _ _ _ _ _ call.ensures.call.ends (let h = rw c.in-Utf16.is at c.requires.pivot in omega (arith, call.auto.dst, h))
