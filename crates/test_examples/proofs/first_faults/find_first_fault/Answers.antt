use Rattle.std.proofs.Common.{ℕ, List, [], ◌+◌, ◌++◌, arith, length, refl, subst}
use Rattle.std.proofs.lemmas.List.{append-nil}
use Rattle.encoding_mem.specs.Piece.{AreWellFormed}
use Rattle.encoding_front.specs.calls.DecoderViews.{decoder_view}
use Rattle.test_examples.specs.FirstFaults.{IsCrowded}
use Rattle.test_examples.proofs.FirstFaultLemmas.{IsReported, crowded, passed_all, passed_none, passed_part, reported}
use Rattle.test_examples.proofs.first_faults.find_first_fault.Goals as goal

-- of the first part
in_first : (c : goal.In-Malformed)
    → IsReported (decoder_view c.new_decoder-decoder.result) (c.args.first.now ++ c.args.second.now) c.decode_to_utf8_without_replacement-result.result.1 c.in-Malformed.length c.in-Malformed.more
in_first c =
    reported _ _ _ _ c.args.first.now c.args.second.now _ _ c.decode_to_utf8_without_replacement-result.result.1 _ _ _ _ _ c.new_decoder-decoder.ensures.begins.pending (passed_none _)
    c.decode_to_utf8_without_replacement-result.ensures.call c.in-Malformed.is (omega arith) (λ last. absurd (cc last))

-- of the second part, after all of the first
in_second : (c : goal.In-Malformed-result)
    → IsReported (decoder_view c.new_decoder-decoder.result) (c.args.first.now ++ c.args.second.now) (length c.args.first.now + c.decode_to_utf8_without_replacement-result-2.result.1) c.in-Malformed-result.length c.in-Malformed-result.more
in_second c =
    let begun = decoder_view c.new_decoder-decoder.result in
    let call = c.decode_to_utf8_without_replacement-result-2 in
    let passed = passed_part _ _ _ _ _ _ _ c.decode_to_utf8_without_replacement-result.ensures.call c.in-InputEmpty.is in
    subst (λ (part : List ℕ). IsReported begun (c.args.first.now ++ part) (length c.args.first.now + call.result.1) c.in-Malformed-result.length c.in-Malformed-result.more) (append-nil c.args.second.now)
    (reported _ _ _ _ c.args.second.now [] _ _ call.result.1 _ _ _ _ _ c.new_decoder-decoder.ensures.begins.pending passed call.ensures.call c.in-Malformed-result.is refl (λ _. refl))

pub overflow_sub-offset-in-Malformed : goal.overflow_sub-offset-in-Malformed
overflow_sub-offset-in-Malformed c = (in_first c).within

pub returns-in-Malformed : goal.returns-in-Malformed
returns-in-Malformed c = rw (← c.new_decoder-decoder.ensures.begins.pieces) (in_first c).first

pub overflow_sub-offset-in-Malformed-result-2 : goal.overflow_sub-offset-in-Malformed-result-2
overflow_sub-offset-in-Malformed-result-2 c = (in_second c).within

pub returns-in-InputEmpty-result : goal.returns-in-InputEmpty-result
returns-in-InputEmpty-result c =
    let passed = passed_part _ _ _ _ _ _ _ c.decode_to_utf8_without_replacement-result.ensures.call c.in-InputEmpty.is in
    subst AreWellFormed (c.new_decoder-decoder.ensures.begins.pieces _) (passed_all _ _ _ _ _ _ _ _ _ passed c.decode_to_utf8_without_replacement-result-2.ensures.call c.in-InputEmpty-result.is)

pub returns-in-Malformed-result : goal.returns-in-Malformed-result
returns-in-Malformed-result c = rw (← c.new_decoder-decoder.ensures.begins.pieces) (in_second c).first

pub returns-in-OutputFull : goal.returns-in-OutputFull
returns-in-OutputFull c =
    let call = c.decode_to_utf8_without_replacement-result in
    let full : IsCrowded (length c.args.room.now) ((decoder_view c.new_decoder-decoder.result).state.pieces (c.args.first.now ++ c.args.second.now)) =
    crowded _ _ _ [] c.args.first.now c.args.second.now _ (length c.args.room.now) call.result.1 call.result.2 _ call.new.dst _ (passed_none _) call.ensures.call c.in-OutputFull.is
    refl (omega (arith, call.auto.dst)) (λ last. absurd (cc last)) in
    rw (← c.new_decoder-decoder.ensures.begins.pieces) full

pub returns-in-OutputFull-result : goal.returns-in-OutputFull-result
returns-in-OutputFull-result c =
    let begun = decoder_view c.new_decoder-decoder.result in
    let first = c.decode_to_utf8_without_replacement-result in
    let call = c.decode_to_utf8_without_replacement-result-2 in
    let passed = passed_part _ _ _ _ _ _ _ first.ensures.call c.in-InputEmpty.is in
    let full : IsCrowded (length c.args.room.now) (begun.state.pieces (c.args.first.now ++ c.args.second.now)) =
    subst (λ (part : List ℕ). IsCrowded (length c.args.room.now) (begun.state.pieces (c.args.first.now ++ part))) (append-nil c.args.second.now)
    (crowded _ _ _ c.args.first.now c.args.second.now [] _ (length c.args.room.now) call.result.1 call.result.2 first.new.dst call.new.dst _ passed call.ensures.call c.in-OutputFull-result.is
    (omega (arith, first.auto.dst)) (omega (arith, first.auto.dst, call.auto.dst)) (λ _. refl)) in
    rw (← c.new_decoder-decoder.ensures.begins.pieces) full
