use Rattle.std.proofs.Common.{ℕ, ◌+◌, ◌<◌, ◌++◌, List, [], ◌∷◌, length, drop, refl, sym, ◌∙◌, ap, subst, arith, length-drop}
use Rattle.std.proofs.lemmas.List.{take_rest, drop-drop}
use Rattle.encoding_front.specs.calls.DecoderViews.{decoder_view}
use Rattle.encoding_front.specs.calls.Stream.{finishes}
use Rattle.encoding_front.specs.declared.coder_result.CoderResult.TheVariants.{InputEmpty, OutputFull}
use Rattle.encoding_front.proofs.DecoderCallLemmas.{starts, text_ends, then_malformed, fewer, finishes_never, sought_before, suffices_start, suffices_malformed}
use Rattle.encoding_front.proofs.decoder.Decoder.decode_text_into.Goals as goal

pub pieces-init : goal.pieces-init
pieces-init g c = record {
  within = omega arith;
  law = starts (decoder_view c.args.self.now).state.pieces c.args.src.now c.args.last _ (λ t. g.S.Sink.writes c.args.sink.now t c.args.sink.now) (g.met.S.Sink.writes_none c.args.sink.now);
  enough = suffices_start (decoder_view c.args.self.now).state.needs g.S.Sink.is_units c.args.last (length c.args.src.now) (g.S.Sink.free c.args.sink.now);
  source = λ r e. refl;
  marks = λ s. refl;
  made = λ t is_made. is_made;
  open_ = c.requires;
}

pub returns-in-InputEmpty-clause-call : goal.returns-in-InputEmpty-clause-call
returns-in-InputEmpty-clause-call g c =
    let call = c.decode_into-outcome in
    text_ends (decoder_view c.args.self.now) (decoder_view c.pieces.self) (decoder_view call.new.self) call.result.0 InputEmpty c.args.src.now _ c.args.last c.pieces.read call.result.1 _ c.pieces.had_errors (λ t. g.S.Sink.writes c.args.sink.now t c.pieces.sink) (λ t. g.S.Sink.writes c.pieces.sink t call.new.sink) (λ t. g.S.Sink.writes c.args.sink.now t call.new.sink)
    c.in-InputEmpty.is (take_rest c.args.src.now c.pieces.read) (λ t u v w. g.met.S.Sink.writes_more _ _ _ t u v w) c.pieces.invariant.law c.pieces.invariant.source c.pieces.invariant.marks c.pieces.invariant.made call.ensures.call

pub returns-in-OutputFull-clause-call : goal.returns-in-OutputFull-clause-call
returns-in-OutputFull-clause-call g c =
    let call = c.decode_into-outcome in
    text_ends (decoder_view c.args.self.now) (decoder_view c.pieces.self) (decoder_view call.new.self) call.result.0 OutputFull c.args.src.now _ c.args.last c.pieces.read call.result.1 _ c.pieces.had_errors (λ t. g.S.Sink.writes c.args.sink.now t c.pieces.sink) (λ t. g.S.Sink.writes c.pieces.sink t call.new.sink) (λ t. g.S.Sink.writes c.args.sink.now t call.new.sink)
    c.in-OutputFull.is (take_rest c.args.src.now c.pieces.read) (λ t u v w. g.met.S.Sink.writes_more _ _ _ t u v w) c.pieces.invariant.law c.pieces.invariant.source c.pieces.invariant.marks c.pieces.invariant.made call.ensures.call

pub pieces-smaller : goal.pieces-smaller
pieces-smaller g c =
    let mid = decoder_view c.pieces.self in
    let call = c.decode_into-outcome in
    let now = decoder_view call.new.self in
    let rest : List ℕ = drop (c.pieces.read + call.result.1) c.args.src.now in
    let left = take_rest c.args.src.now c.pieces.read in
    subst (λ (x : List ℕ). length (now.state.pieces rest) < length (mid.state.pieces x)) left
    (fewer mid.state.pieces now.state.pieces call.result.0 c.in-Malformed.field-0 c.in-Malformed.field-1 now.state.pending _ rest c.args.last _ now.state.pending call.result.1 (λ t. g.S.Sink.writes c.pieces.sink t call.new.sink) c.in-Malformed.is (sym (ap (λ x. drop call.result.1 x) left ∙ drop-drop call.result.1 c.pieces.read c.args.src.now)) call.ensures.call.law)

pub pieces-preserved : goal.pieces-preserved
pieces-preserved g c =
    let was = decoder_view c.args.self.now in
    let mid = decoder_view c.pieces.self in
    let call = c.decode_into-outcome in
    let now = decoder_view call.new.self in
    let sink = c.put.new.self in
    let left = take_rest c.args.src.now c.pieces.read in
    let size = ap length left ∙ length-drop c.pieces.read c.args.src.now in
    record {
      within = omega (arith, call.ensures.call.law.within, size, c.pieces.invariant.within);
      law = then_malformed was.state.pieces mid.state.pieces now.state.pieces
          call.result.0 c.in-Malformed.field-0 c.in-Malformed.field-1 c.args.src.now _ c.args.last _ _ now.state.pending c.pieces.read call.result.1 now.state.pending c.pieces.had_errors (λ t. g.S.Sink.writes c.args.sink.now t c.pieces.sink) (λ t. g.S.Sink.writes c.pieces.sink t call.new.sink) (λ t. g.S.Sink.writes c.args.sink.now t sink)
          c.in-Malformed.is left (λ t u v w. g.met.S.Sink.writes_more _ _ _ t (u ++ 0xFFFD ∷ []) v (g.met.S.Sink.writes_more _ _ _ u (0xFFFD ∷ []) w c.put.ensures.writes)) c.pieces.invariant.law call.ensures.call.law;
      enough = suffices_malformed was.state.needs mid.state.needs now.state.needs g.S.Sink.is_units c.args.last (length c.args.src.now) _ c.pieces.read call.result.1 _ (g.S.Sink.free c.pieces.sink) (g.S.Sink.free call.new.sink) (g.S.Sink.free sink) c.in-Malformed.field-0 c.in-Malformed.field-1 (g.S.Sink.cost 0xFFFD)
          call.result.0 c.in-Malformed.is size (g.met.S.Sink.cost_is 0xFFFD) c.put.ensures.free c.pieces.invariant.within call.ensures.call.law.within c.pieces.invariant.enough call.ensures.enough;
      source = λ r e. c.pieces.invariant.source r e ∙ ap (λ x. mid.source (x ++ r)) (sym left) ∙ call.ensures.call.source r e ∙ ap (λ x. now.source (x ++ r)) (ap (λ x. drop call.result.1 x) left ∙ drop-drop call.result.1 c.pieces.read c.args.src.now);
      marks = λ s. let k = call.ensures.call.marks s in k.0 ∙ c.pieces.invariant.marks (sought_before k.0 s);
      made = λ t is_made. call.ensures.call.made t (c.pieces.invariant.made t is_made);
      open_ = call.ensures.call.finished ∙ ap (finishes c.args.last) c.in-Malformed.is ∙ finishes_never c.args.last c.in-Malformed.field-0 c.in-Malformed.field-1;
    }
