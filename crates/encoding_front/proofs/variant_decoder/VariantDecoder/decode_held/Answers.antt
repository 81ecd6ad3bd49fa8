use Rattle.std.proofs.Common.{◌≡◌, ◌+◌, ◌∙◌, List, ℕ, length, drop, refl, ap, arith, rules}
use Rattle.encoding_mem.specs.declared.codec.decoder_result.DecoderResult.TheVariants.{InputEmpty, OutputFull, Malformed}
use Rattle.encoding_front.specs.calls.VariantDecoders.{state_of}
use Rattle.encoding_front.proofs.BomLemmas.{law_held, law_none, reports_held, suffices_held, takes_well_formed, takes_then, none_left, ends_none, suffices_none, suffices_then}
use Rattle.encoding_front.proofs.variant_decoder.VariantDecoder.decode_held.Goals as goal

pub returns-then-len-eq0-clause-call : goal.returns-then-len-eq0-clause-call
returns-then-len-eq0-clause-call g c =
    let one = c.decode_on in
    let call = one.ensures.call in
    record {
      law = law_none (state_of c.args.self.now) (state_of one.new.self) c.args.held.now c.args.src.now c.args.last one.result.1 (λ t. g.S.Sink.writes c.args.sink.now t one.new.sink) one.result.0 (omega arith) call.law;
      ends = ends_none (state_of one.new.self) c.args.held.now _ c.args.last _ _ _ one.result.0 (omega arith) call.ends;
      enough = suffices_none (state_of c.args.self.now) (state_of one.new.self) c.args.held.now c.args.held.now g.S.Sink.is_units c.args.last (length c.args.src.now) _ (g.S.Sink.free c.args.sink.now) (g.S.Sink.free one.new.sink) one.result.0 (omega arith) (omega arith) call.enough;
      limits = call.limits;
    }

pub returns-in-InputEmpty-clause-call : goal.returns-in-InputEmpty-clause-call
returns-in-InputEmpty-clause-call g c =
    let state = state_of in
    let own = state c.args.self.now in
    let held = c.decode_on-outcome in
    let end = c.decode_on-in-InputEmpty in
    let call = held.ensures.call in
    let more = end.ensures.call in
    let read = none_left held.result.0 (state held.new.self) _ _ _ _ _ c.in-InputEmpty.is call.ends in
    let none : length c.remove_prefix.new.self ≡ 0 = omega (arith, ap length c.remove_prefix.ensures, ap (λ x. length (drop held.result.1 x)) c.as_slice.ensures, ap length read) in
    let first_of = rw c.in-InputEmpty.is at call.enough in
    record {
      law = takes_then own (state held.new.self) (state end.new.self) end.result.0 c.args.held.now c.as_slice.result.now c.remove_prefix.new.self c.args.src.now c.args.last held.result.1 end.result.1 (λ t. g.S.Sink.writes c.args.sink.now t held.new.sink) (λ t. g.S.Sink.writes held.new.sink t end.new.sink) (λ t. g.S.Sink.writes c.args.sink.now t end.new.sink)
          c.as_slice.ensures c.remove_prefix.ensures read (λ s t v w. g.met.S.Sink.writes_more _ _ _ s t v w)
          (takes_well_formed held.result.0 _ _ _ _ _ _ _ _ _ c.in-InputEmpty.is call.law) more.law;
      ends = search rules;
      enough = suffices_then own (state held.new.self) (state end.new.self) c.args.held.now c.remove_prefix.new.self g.S.Sink.is_units c.args.last _ _ _ _ _ InputEmpty end.result.0 none refl
          (λ k m is stops fits. first_of k m is stops (omega (arith, ap (λ x. own.needs k (length x + m)) c.as_slice.ensures, fits))) more.enough;
      limits = more.limits ∙ call.limits;
    }

pub returns-in-OutputFull-clause-call : goal.returns-in-OutputFull-clause-call
returns-in-OutputFull-clause-call g c =
    let held = c.decode_on-outcome in
    let call = rw c.in-OutputFull.is at held.ensures.call in
    record {
      law = law_held (state_of c.args.self.now) (state_of held.new.self) c.args.held.now c.as_slice.result.now c.remove_prefix.new.self c.args.src.now c.args.last held.result.1 (λ t. g.S.Sink.writes c.args.sink.now t held.new.sink) OutputFull OutputFull
          c.as_slice.ensures c.remove_prefix.ensures call.law call.law.well_formed;
      ends = search rules;
      enough = search rules;
      limits = call.limits;
    }

pub returns-in-Malformed-clause-call : goal.returns-in-Malformed-clause-call
returns-in-Malformed-clause-call g c =
    let state = state_of in
    let own = state c.args.self.now in
    let held = c.decode_on-outcome in
    let now = state held.new.self in
    let before = c.args.held.now in
    let bytes = c.as_slice.result.now in
    let after = c.remove_prefix.new.self in
    let n = held.result.1 in
    let a = c.in-Malformed.a in
    let b = c.in-Malformed.b in
    let sum : ℕ = b + c.len-in-Malformed.result in
    let W = λ (t : List ℕ). g.S.Sink.writes c.args.sink.now t held.new.sink in
    let call = rw c.in-Malformed.is at held.ensures.call in
    let few = c.requires (omega arith) in
    record {
      law = law_held own now before bytes after c.args.src.now c.args.last n W (Malformed a b) (Malformed a sum) c.as_slice.ensures c.remove_prefix.ensures call.law (reports_held own now before bytes after n a b sum W c.as_slice.ensures c.remove_prefix.ensures few (ap (λ k. b + k) c.len-in-Malformed.ensures.exact) call.law);
      ends = call.ends;
      enough = suffices_held own now before bytes after g.S.Sink.is_units c.args.last n (length c.args.src.now) _ _ a b sum c.as_slice.ensures c.remove_prefix.ensures call.enough;
      limits = call.limits;
    }
