use Rattle.std.proofs.Common.{◌≡◌, ◌-◌, ◌++◌, ◌∙◌, length, take, drop, sym, ap, arith, length-append, length-drop, rules}
use Rattle.std.proofs.lemmas.List.{append-nil, length-take-le, take-append-le}
use Rattle.encoding_mem.specs.declared.codec.encoder_result.EncoderResult.TheVariants.{Unmappable}
use Rattle.encoding_front.specs.calls.Encoder.{kept_back, referred}
use Rattle.encoding_front.proofs.EncoderCallLemmas.{behind_part, behind_put, nothing_referred, turned, unmappable_keeps}
use Rattle.encoding_front.proofs.replacing.encode_turn.Goals as goal

pub put_all-requires : goal.put_all-requires
put_all-requires g c =
    let e = c.encode_source-result.ensures in
    let kept : kept_back c.args.encoder.now.encoding ≡ 10 = unmappable_keeps _ _ _ _ _ _ _ _ _ e.call c.in-Unmappable.is in
    let size : length c.encode_source-result.new.dst ≡ length (take c.args.end c.args.dst.now) = c.encode_source-result.auto.dst in
    let put = c.write_reference-len in
    let short = length-take-le put.result put.new.dst (omega (arith, put.ensures.fits, put.array_long)) in
    omega (arith, short, put.ensures.fits, e.wrote.room, length-append c.encode_source-result.new.dst (drop c.args.end c.args.dst.now), length-drop c.args.end c.args.dst.now, length-take-le c.args.end c.args.dst.now (omega arith))

pub returns-in_default-clause-wrote : goal.returns-in_default-clause-wrote
returns-in_default-clause-wrote g c =
    let e = c.encode_source-result.ensures in
    record {
      room = search rules;
      behind = behind_part _ _ _ _ (omega (arith, c.requires)) e.wrote.room c.encode_source-result.auto.dst e.wrote.behind;
    }

pub returns-in-Unmappable-clause-wrote : goal.returns-in-Unmappable-clause-wrote
returns-in-Unmappable-clause-wrote g c =
    let e = c.encode_source-result.ensures in
    record {
      room = search rules;
      behind = behind_put _ _ _ _ _ _ c.put_all.ensures.end (behind_part _ _ _ _ (omega (arith, c.requires)) e.wrote.room c.encode_source-result.auto.dst e.wrote.behind) c.put_all.ensures.back;
    }

pub returns-in_default-clause-turn : goal.returns-in_default-clause-turn
returns-in_default-clause-turn g c =
    let e = c.encode_source-result.ensures in
    let size : length c.encode_source-result.new.dst ≡ c.args.end = c.encode_source-result.auto.dst ∙ length-take-le c.args.end c.args.dst.now (omega (arith, c.requires)) in
    turned _ _ _ _ _ _ _ _ c.encode_source-result.result.1 _ _ e.call (length-take-le _ _ e.wrote.room) (omega (arith, e.wrote.room)) (ap (λ n. n - c.encode_source-result.result.1) size)
    (take-append-le _ _ _ e.wrote.room ∙ sym (append-nil _) ∙ ap (λ l. take c.encode_source-result.result.1 c.encode_source-result.new.dst ++ l) (sym (nothing_referred _ c.in_default.not-Unmappable)))

pub returns-in-Unmappable-clause-turn : goal.returns-in-Unmappable-clause-turn
returns-in-Unmappable-clause-turn g c =
    let e = c.encode_source-result.ensures in
    let size : length c.encode_source-result.new.dst ≡ c.args.end = c.encode_source-result.auto.dst ∙ length-take-le c.args.end c.args.dst.now (omega (arith, c.requires)) in
    turned _ _ _ _ _ _ _ _ c.encode_source-result.result.1 _ _ (rw c.in-Unmappable.is at e.call) (length-take-le _ _ e.wrote.room) (omega (arith, e.wrote.room)) (ap (λ n. n - c.encode_source-result.result.1) size)
    (c.put_all.ensures.prefix ∙ ap (λ l. take c.encode_source-result.result.1 (c.encode_source-result.new.dst ++ drop c.args.end c.args.dst.now) ++ l) c.write_reference-len.ensures.reference ∙ ap (λ l. l ++ referred (Unmappable c.in-Unmappable.c)) (take-append-le _ _ _ e.wrote.room))
