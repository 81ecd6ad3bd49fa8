use Rattle.std.proofs.Common.{◌≡◌, ◌<◌, ◌≤◌, IsTrue, length, length-drop, refl, sym, subst, ap, ◌∙◌, arith, rules, false, inr}
use Rattle.std.proofs.lemmas.Bool.{eqb-true}
use Rattle.std.proofs.lemmas.List.{append-nil, drop_all, nil_from_length}
use Rattle.encoding_mem.specs.Piece.{malformed, AreWellFormed, piece_scalars}
use Rattle.encoding_mem.specs.laws.Piece.{AreWellFormed-last}
use Rattle.encoding_mem.specs.calls.DecodedLength.{counts_past_malformed, left_after, replacement_len}
use Rattle.encoding_mem.specs.calls.DecoderRule.{IsSoon}
use Rattle.encoding_mem.specs.calls.Decoding.{Reports}
use Rattle.encoding_mem.specs.declared.codec.decoder_result.DecoderResult.TheVariants.{Malformed}
use Rattle.encoding_mem.proofs.DecoderCallLemmas.{known_next, left_few, near_few, pending_room, took_pending_of}
use Rattle.encoding_mem.proofs.codec.driver.finish_pending.Goals as goal
use Rattle.encoding_mem.proofs.codec.driver.finish_pending.Goals.{then-last, else-last}
use Rattle.encoding_mem.specs.Decided.{IsUndecided}

pub pieces-preserved : goal.pieces-preserved
pieces-preserved g c =
    let s = c.in-Took.ensures.step in
    let ends : IsTrue c.if-last.take_piece → IsTrue c.args.last × (length c.args.src.now ≤ c.pieces.read) = λ t. elim c.if-last.branch [ then-last w ↦ (w.if-last.true, let same : c.pieces.read ≡ length c.args.src.now = eqb-true _ _ (sym w.take_piece-is ∙ t) in omega (arith, same)) | else-last w ↦ (let no : ⊥ = cc in absurd no) ] in
    record {
      limits = c.take_piece.ensures.limits ∙ c.pieces.invariant.limits;
      modes = c.take_piece.ensures.modes ∙ c.pieces.invariant.modes;
      enough = λ k m units stops h. pending_room (g.F.DecoderRule.needs c.pieces.codec) c.if-last.take_piece c.args.last g.S.Sink.is_units (length c.args.src.now) c.pieces.read (g.S.Sink.free c.pieces.sink) c.as_slice.result.now c.pieces.pending c.remove_prefix.new.self c.in-Took.n
          (λ k x. g.F.DecoderRule.needs c.take_piece.new.codec k x ≤ g.S.Sink.free c.take_piece.new.sink) c.as_slice.ensures c.remove_prefix.ensures (omega (arith, s.2, s.3.within, ap length c.as_slice.ensures)) ends c.in-Took.ensures.room k m units stops (c.pieces.invariant.enough k m units stops h);
      near = near_few (g.F.DecoderRule.pieces c.take_piece.new.codec) c.remove_prefix.new.self (left_few (g.F.DecoderRule.pieces c.pieces.codec) (g.F.DecoderRule.pieces c.take_piece.new.codec) c.as_slice.result.now c.pieces.pending _ c.if-last.take_piece s.0 c.in-Took.n s.2 c.as_slice.ensures c.remove_prefix.ensures c.pieces.invariant.near s.3);
      short = omega (arith, c.pieces.invariant.short, ap length c.remove_prefix.ensures, length-drop c.in-Took.n c.pieces.pending);
      takes = took_pending_of (λ _. AreWellFormed) _ (g.F.DecoderRule.pieces c.pieces.codec) (g.F.DecoderRule.pieces c.take_piece.new.codec) c.args.src.now c.as_slice.result.now c.args.last c.if-last.take_piece _ c.pieces.pending c.remove_prefix.new.self c.pieces.read (λ t. g.S.Sink.writes c.args.sink.now t c.pieces.sink) (λ t. g.S.Sink.writes c.args.sink.now t c.take_piece.new.sink) s.0 c.in-Took.n s.2 c.as_slice.ensures c.remove_prefix.ensures ends c.pieces.invariant.takes s.3 (λ ps a. AreWellFormed-last ps s.0 a s.1) (λ t w. g.met.S.Sink.writes_more _ _ _ t (piece_scalars s.0) w s.4);
    }

pub returns-in-Broke-clause-call : goal.returns-in-Broke-clause-call
returns-in-Broke-clause-call g c =
    let s = c.in-Broke.ensures.step in
    let ends : IsTrue c.if-last.take_piece → IsTrue c.args.last × (length c.args.src.now ≤ c.pieces.read) = λ t. elim c.if-last.branch [ then-last w ↦ (w.if-last.true, let same : c.pieces.read ≡ length c.args.src.now = eqb-true _ _ (sym w.take_piece-is ∙ t) in omega (arith, same)) | else-last w ↦ (let no : ⊥ = cc in absurd no) ] in
    let few : length c.remove_prefix-in-Broke.new.self ≤ 3 = left_few (g.F.DecoderRule.pieces c.pieces.codec) (g.F.DecoderRule.pieces c.take_piece.new.codec) c.as_slice.result.now c.pieces.pending _ c.if-last.take_piece (malformed c.in-Broke.n) c.in-Broke.n refl c.as_slice.ensures c.remove_prefix-in-Broke.ensures c.pieces.invariant.near s.0 in
    record {
      law = took_pending_of (λ now. Reports (Malformed c.in-Broke.n c.len-behind.result) (length now)) _ (g.F.DecoderRule.pieces c.pieces.codec) (g.F.DecoderRule.pieces c.take_piece.new.codec) c.args.src.now c.as_slice.result.now c.args.last c.if-last.take_piece _ c.pieces.pending c.remove_prefix-in-Broke.new.self c.pieces.read (λ t. g.S.Sink.writes c.args.sink.now t c.pieces.sink) (λ t. g.S.Sink.writes c.args.sink.now t c.take_piece.new.sink) (malformed c.in-Broke.n) c.in-Broke.n refl c.as_slice.ensures c.remove_prefix-in-Broke.ensures ends c.pieces.invariant.takes s.0 (λ ps a. (sym c.len-behind.ensures.exact, s.1, omega (arith, c.len-behind.ensures.exact, few), omega (arith, c.len-behind.ensures.exact, c.pieces.invariant.short, s.0.within, ap length c.as_slice.ensures, ap length c.remove_prefix-in-Broke.ensures, length-drop c.in-Broke.n c.pieces.pending), (ps, a, refl))) (λ t w. rw append-nil (rw s.2 w));
      ends = subst (λ n. n ≤ g.S.Sink.free c.take_piece.new.sink) (g.met.S.Sink.cost_is 0xFFFD) s.3;
      enough = λ k m units stops h. pending_room (g.F.DecoderRule.needs c.pieces.codec) c.if-last.take_piece c.args.last g.S.Sink.is_units (length c.args.src.now) c.pieces.read (g.S.Sink.free c.pieces.sink) c.as_slice.result.now c.pieces.pending c.remove_prefix-in-Broke.new.self c.in-Broke.n
          (λ k x. left_after (counts_past_malformed k) (replacement_len g.S.Sink.is_units) (g.F.DecoderRule.needs c.take_piece.new.codec k x) ≤ g.S.Sink.free c.take_piece.new.sink) c.as_slice.ensures c.remove_prefix-in-Broke.ensures (omega (arith, s.0.within, ap length c.as_slice.ensures)) ends c.in-Broke.ensures.room k m units stops (c.pieces.invariant.enough k m units stops h);
      short = omega (arith, few);
      near = near_few (g.F.DecoderRule.pieces c.take_piece.new.codec) c.remove_prefix-in-Broke.new.self few;
    }

pub returns-in-Full-clause-call : goal.returns-in-Full-clause-call
returns-in-Full-clause-call g c =
    let s = c.in-Full.ensures.step in
    let i = c.pieces.invariant in
    let ends : IsTrue c.if-last.take_piece → IsTrue c.args.last × (length c.args.src.now ≤ c.pieces.read) = λ t. elim c.if-last.branch [ then-last w ↦ (w.if-last.true, let same : c.pieces.read ≡ length c.args.src.now = eqb-true _ _ (sym w.take_piece-is ∙ t) in omega (arith, same)) | else-last w ↦ (let no : ⊥ = cc in absurd no) ] in
    let P = g.F.DecoderRule.pieces in
    record {
      law = search rules;
      ends = (
        subst (λ n. g.S.Sink.free c.take_piece.new.sink < n) g.met.S.Sink.room_is s.0,
        (
          s.1.0,
          rw s.2 (known_next (P c.pieces.codec) s.1.1 c.as_slice.result.now c.pieces.pending c.args.src.now c.args.last c.if-last.take_piece c.pieces.read s.1.0 c.as_slice.ensures ends s.1.2),
          s.1.3,
        ),
      );
      enough = λ k m units stops h. pending_room (g.F.DecoderRule.needs c.pieces.codec) c.if-last.take_piece c.args.last g.S.Sink.is_units (length c.args.src.now) c.pieces.read (g.S.Sink.free c.pieces.sink) c.as_slice.result.now c.pieces.pending c.pieces.pending 0
          (λ k x. ⊥) c.as_slice.ensures refl (omega arith) ends c.in-Full.ensures.room k m units stops (i.enough k m units stops h);
      short = i.short;
      near = rw s.2 i.near;
    }

pub returns-then-at_end-clause-call : goal.returns-then-at_end-clause-call
returns-then-at_end-clause-call g c =
    let s = c.in-Wait.ensures.step in
    let i = c.pieces.invariant in
    let P = g.F.DecoderRule.pieces c.pieces.codec in
    let same = c.as_slice.ensures in
    let not_last : c.args.last ≡ false = search rules in
    record {
      law = search rules;
      ends = (drop_all c.pieces.read c.args.src.now (omega (arith, c.if-at_end.true)), inr (not_last, omega (arith, s.1, ap length same), rw s.4 (subst (IsUndecided P) same s.2), rw s.4 (subst (IsSoon P) same s.3)));
      enough = search rules;
      short = i.short;
      near = rw s.4 i.near;
    }

pub returns-clause-call : goal.returns-clause-call
returns-clause-call g c =
    let i = c.pieces.invariant in
    record {
      law = i.takes;
      ends = nil_from_length c.pieces.pending (omega (arith, c.pieces-test.false));
      enough = i.enough;
      short = i.short;
      near = i.near;
    }
