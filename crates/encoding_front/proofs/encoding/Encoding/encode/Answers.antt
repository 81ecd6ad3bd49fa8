use Rattle.std.proofs.Common.{◌∙◌, false, length, refl, ap, arith}
use Rattle.encoding_front.specs.calls.Encoder.{EncoderState, queried_with_kept}
use Rattle.encoding_front.proofs.ReferenceLemmas.{all_bytes, all_told, one_more}
use Rattle.encoding_front.proofs.encoding.Encoding.encode.Goals as goal

pub returns-in-InputEmpty-clause-bytes : goal.returns-in-InputEmpty-clause-bytes
returns-in-InputEmpty-clause-bytes c =
    let e = c.encode_from_utf8_to_vec-result.ensures.call in
    let ends = rw c.in-InputEmpty.is at e.2.ends in
    all_bytes _ _ c.new_encoder-encoder.result c.encode_from_utf8_to_vec-result.new.self _ _ _ _ c.new_encoder-encoder.ensures.state
    (one_more c.new_encoder-encoder.result c.text.encoder c.encode_from_utf8_to_vec-result.new.self _ _ _ _ _ _ _ _ _ _ _ c.text.invariant.passed c.reserve_for.ensures.items e.1 e.2) ends.0 (ends.1 refl)

pub returns-in-InputEmpty-clause-lost : goal.returns-in-InputEmpty-clause-lost
returns-in-InputEmpty-clause-lost c =
    let e = c.encode_from_utf8_to_vec-result.ensures.call in
    let ends = rw c.in-InputEmpty.is at e.2.ends in
    all_told _ _ c.new_encoder-encoder.result c.encode_from_utf8_to_vec-result.new.self _ _ _ _ c.new_encoder-encoder.ensures.state
    (one_more c.new_encoder-encoder.result c.text.encoder c.encode_from_utf8_to_vec-result.new.self _ _ _ _ _ _ _ _ _ _ _ c.text.invariant.passed c.reserve_for.ensures.items e.1 e.2) ends.0

pub text-preserved : goal.text-preserved
text-preserved c =
    let e = c.encode_from_utf8_to_vec-result.ensures.call in
    record {
      utf8 = c.range_from-rest.utf8;
      within = omega (arith, c.range_from-rest.ensures.len, c.text.invariant.within);
      passed = rw c.range_from-rest.ensures.value
          (one_more c.new_encoder-encoder.result c.text.encoder c.encode_from_utf8_to_vec-result.new.self _ _ _ _ _ _ _ _ _ _ _ c.text.invariant.passed c.reserve_for.ensures.items e.1 e.2);
      first = λ none.
          let same = c.text.invariant.first none in
          let asked =
          ap (λ (x : EncoderState). queried_with_kept x.encoding false (length c.text.rest.now)) c.text.invariant.passed.same
          ∙ ap (λ l. queried_with_kept c.new_encoder-encoder.result.encoding false (length l)) same ∙ none in
          absurd (c.in_ok-reserve_for.ensures.fault asked);
    }
