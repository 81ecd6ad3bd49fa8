use Rattle.std.proofs.Common.{◌-◌, ◌≤◌, length, take, drop, sym, ◌∙◌, ap, subst, arith, vec_capacity, vec_len}
use Rattle.std.proofs.lemmas.List.{length-take-le}
use Rattle.std.specs.Str.{chars}
use Rattle.encoding_front.specs.calls.Encoder.{Encoded}
use Rattle.encoding_front.proofs.DestinationLemmas.{spare, vec_written}
use Rattle.encoding_front.proofs.encoder.Encoder.encode_from_utf8_to_vec_without_replacement.Goals as goal

pub returns-clause-call : goal.returns-clause-call
returns-clause-call c =
    let e = c.encode_from_utf8_without_replacement-result.ensures in
    let f = c.fill_spare-len.ensures in
    let size = c.encode_from_utf8_without_replacement-result.auto.dst in
    let ys = c.encode_from_utf8_without_replacement-result.new.dst in
    let w = c.encode_from_utf8_without_replacement-result.result.2 in
    let within : c.fill_spare-len.result ≤ length c.deref_mut.result.now = omega (arith, f.within, ap length c.deref_mut.ensures.value) in
    let room = spare _ ys _ _ within size (ap length c.deref_mut.ensures.value ∙ f.full) ∙ ap (λ n. vec_capacity c.args.dst.now - n) f.len in (
      take w ys,
      c.truncate.ensures.items ∙ vec_written c.args.dst.now.items c.deref_mut.result.now ys _ c.fill_spare-len.result w _ within e.wrote.room size (sym c.deref_mut.ensures.len)
          (ap (take c.fill_spare-len.result) c.deref_mut.ensures.value ∙ f.items),
      subst (λ n. Encoded c.args.self.now c.args.last c.encode_from_utf8_without_replacement-result.result.0 (chars c.args.src.now) (take w ys) c.encode_from_utf8_without_replacement-result.new.self (chars (drop c.encode_from_utf8_without_replacement-result.result.1 c.args.src.now)) n) (ap (λ n. n - w) room ∙ ap (λ n. vec_capacity c.args.dst.now - vec_len c.args.dst.now - n) (sym (length-take-le w ys e.wrote.room))) e.call,
    )
