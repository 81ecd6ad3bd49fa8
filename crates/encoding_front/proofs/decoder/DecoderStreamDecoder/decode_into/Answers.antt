use Rattle.std.proofs.Common.{◌≡◌, ◌+◌, ◌++◌, [], length, drop, false, refl, sym, subst, ◌∙◌, ap, length-drop}
use Rattle.std.proofs.lemmas.List.{take_rest, drop-drop}
use Rattle.encoding_front.specs.Encodings.{IsReady}
use Rattle.encoding_front.specs.calls.BomDecoderState.{bom_decoder_state, held_state}
use Rattle.encoding_front.specs.calls.DecoderViews.{decoder_view}
use Rattle.encoding_front.specs.calls.Resumed.{resumed_in}
use Rattle.encoding_front.specs.calls.Seeking.{is_sought, sought_pieces, sought_needs}
use Rattle.encoding_front.specs.calls.VariantDecoders.{state_of}
use Rattle.encoding_front.specs.laws.Stream.{widest_by}
use Rattle.encoding_front.proofs.BomLemmas.{unmarked, unnamed, needs_settled}
use Rattle.encoding_front.proofs.DecoderCallLemmas.{takes_settled, ends_settled, suffices_settled}
use Rattle.encoding_front.proofs.decoder.DecoderStreamDecoder.decode_into.Goals as goal

pub returns-in-Some-clause-call : goal.returns-in-Some-clause-call
returns-in-Some-clause-call g c =
    let was = decoder_view c.args.self.now in
    let mid = c.take_mark.new.self in
    let held = c.decode_held-outcome in
    let own = state_of held.new.self in
    let looked = c.in-Some.ensures.takes in
    let settled : is_sought mid.sought ≡ false = ap is_sought looked.0 in
    let rest = take_rest c.args.src.now c.in-Some.taken in
    let unread = ap (λ x. drop held.result.1 x) rest ∙ drop-drop held.result.1 c.in-Some.taken c.args.src.now in
    record {
      law = takes_settled was.state.pieces (decoder_view mid).state.pieces (λ x. (state_of mid.inner).pieces (mid.held ++ x)) (λ x. own.pieces (held.new.held ++ x)) (λ x. sought_pieces mid.sought own.pieces (held.new.held ++ x))
          held.result.0 c.args.src.now _ c.args.last _ _ (own.pending + length held.new.held) c.in-Some.taken held.result.1 (λ t. g.S.Sink.writes c.args.sink.now t held.new.sink)
          (λ x. unmarked mid.sought (state_of mid.inner).pieces (mid.held ++ x) settled) (λ x. unmarked mid.sought own.pieces (held.new.held ++ x) settled) rest looked.1 held.ensures.call.law;
      ends = ends_settled (held_state own held.new.held) (bom_decoder_state mid.sought own held.new.held (λ t. cc) (widest_by own.room mid.encoding (held.ensures.call.limits ∙ mid.room))) _ _ c.args.last _ _ _ held.result.0 (λ x. unmarked mid.sought own.pieces (held.new.held ++ x) settled) refl unread held.ensures.call.ends;
      source = λ r e. c.in-Some.ensures.source r e ∙ unnamed mid.sought mid.encoding (mid.held ++ r) settled ∙ sym (unnamed mid.sought mid.encoding (held.new.held ++ (drop (c.in-Some.taken + held.result.1) c.args.src.now ++ r)) settled);
      marks = λ s. absurd (cc (sym s ∙ settled));
      finished = c.finishes-self.ensures;
      made = λ t made.
          let taken = c.in-Some.ensures.made t made in
          let same = unnamed mid.sought mid.encoding (mid.held ++ []) settled ∙ sym (unnamed mid.sought mid.encoding (held.new.held ++ []) settled) in
          record {
            ready = subst (IsReady t) same taken.ready;
            reads = held.ensures.resumed ∙ taken.reads ∙ ap (resumed_in t) same;
          };
    }

pub returns-in-Some-clause-enough : goal.returns-in-Some-clause-enough
returns-in-Some-clause-enough g c =
    let was = decoder_view c.args.self.now in
    let mid = c.take_mark.new.self in
    let held = c.decode_held-outcome in
    let looked = c.in-Some.ensures.takes in
    let rest = take_rest c.args.src.now c.in-Some.taken in
    suffices_settled was.state.needs (decoder_view mid).state.needs (λ k n. (state_of mid.inner).needs k (length mid.held + n)) (λ k n. (state_of held.new.self).needs k (length held.new.held + n)) (sought_needs mid.sought (state_of held.new.self).needs held.new.held)
    g.S.Sink.is_units c.args.last (length c.args.src.now) _ c.in-Some.taken held.result.1 _ _ held.result.0
    (λ k m. needs_settled mid.sought (state_of mid.inner).needs mid.held looked.0 k m) (λ k m. needs_settled mid.sought (state_of held.new.self).needs held.new.held looked.0 k m)
    looked.1.within (ap length rest ∙ length-drop c.in-Some.taken c.args.src.now) held.ensures.call.law.within looked.2 held.ensures.call.enough
