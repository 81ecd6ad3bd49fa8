use Rattle.std.proofs.Common.{[], refl, sym, ◌∙◌}
use Rattle.std.proofs.lemmas.List.{take_rest}
use Rattle.encoding_front.specs.calls.DecoderViews.{decoder_view}
use Rattle.jillapun_c.proofs.WholeLemmas.{decoded_all, decoded_fewer, decoded_first, decoded_malformed, decoded_more}
use Rattle.jillapun_c.proofs.whole.decoding.decode_whole.Goals as goal

pub parts-init : goal.parts-init
parts-init c =
    let d = c.decode_part-part in
    let f = c.first-filled.ensures in
    record {
      so_far = decoded_first (decoder_view c.args.decoder.now) (decoder_view d.new.decoder) c.args.src.now c.args.expected.now c.args.dst.now d.new.room c.args.replaces d.result c.first-filled.result c.left_behind-left.result
          d.ensures.call d.auto.room f.put f.length f.whole (c.left_behind-left.ensures c.args.expected.now [] refl) d.ensures.replaced d.ensures.stopped;
      size = refl;
    }

pub parts-smaller : goal.parts-smaller
parts-smaller c =
    let d = c.decode_part-part-in-More in
    decoded_fewer (decoder_view c.parts.decoder) (decoder_view d.new.decoder) c.args.src.now _ _ d.new.room c.parts.read c.parts.part.end d.result c.in-More.is (take_rest c.args.src.now c.parts.read) (d.auto.room ∙ c.parts.invariant.size) d.ensures.call

pub parts-preserved : goal.parts-preserved
parts-preserved c =
    let d = c.decode_part-part-in-More in
    record {
      so_far = decoded_more (decoder_view c.args.decoder.now) (decoder_view c.parts.decoder) (decoder_view d.new.decoder) c.args.src.now _ c.args.expected.now c.args.dst.now c.parts.dst c.add.new.room _ d.new.room _ c.args.replaces c.parts.read c.parts.part.end c.parts.had_errors c.parts.filled c.add.new.self c.parts.left c.left_behind-left-in-More.result d.result
          c.parts.invariant.so_far c.in-More.is (take_rest c.args.src.now c.parts.read) d.ensures.call refl c.add.auto.room
          (λ all holds. c.add.ensures.holds all c.args.dst.now (sym c.parts.invariant.so_far.same) holds) c.add.ensures.kept
          (λ all is_left. c.left_behind-left-in-More.ensures c.args.expected.now all is_left) d.ensures.replaced d.ensures.stopped;
      size = d.auto.room ∙ c.parts.invariant.size;
    }

pub returns-in-Malformed : goal.returns-in-Malformed
returns-in-Malformed c = record {
  made = decoded_malformed (decoder_view c.args.decoder.now) (decoder_view c.parts.decoder) c.args.src.now c.args.expected.now c.args.dst.now c.parts.dst c.args.replaces c.parts.read c.parts.part.end c.parts.had_errors c.parts.filled c.parts.left c.parts.invariant.so_far c.in-Malformed.is;
  replaced = λ replaces. absurd (c.parts.invariant.so_far.replaced replaces c.in-Malformed.is);
  stopped = λ stops. tt;
}

pub returns : goal.returns
returns c = record {
  made = decoded_all (decoder_view c.args.decoder.now) (decoder_view c.parts.decoder) c.args.src.now c.args.expected.now c.args.dst.now c.parts.dst c.args.replaces c.parts.read c.parts.part.end c.parts.had_errors c.parts.filled c.parts.left c.is_all-is_own.result
      c.parts.invariant.so_far c.in_default.not-More c.in_default-end.not-Malformed (c.is_all-is_own.ensures c.args.expected.now);
  replaced = λ replaces. refl;
  stopped = λ stops. c.parts.invariant.so_far.stopped stops c.in_default-end.not-Malformed;
}
