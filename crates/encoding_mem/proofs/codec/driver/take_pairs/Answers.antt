use Rattle.std.proofs.Common.{◌≡◌, ℕ, ◌+◌, ◌≤◌, List, [], ◌∷◌, false, length, take, refl, subst, ap, ◌∙◌, arith}
use Rattle.encoding_mem.specs.Piece.{well_formed}
use Rattle.encoding_mem.specs.calls.DecoderRule.{IsFirstPiece}
use Rattle.encoding_mem.specs.calls.DecodedLength.{cost_in, is_units}
use Rattle.encoding_mem.proofs.DriverLemmas.{basic_cost, come_character, come_none, untrue}
use Rattle.encoding_mem.proofs.codec.driver.take_pairs.Goals as goal

pub pairs-init : goal.pairs-init
pairs-init g c = record {
  bytes = omega (arith, c.min-pairs_left.ensures);
  room = omega (arith, c.min-pairs_left.ensures, c.free_len.ensures);
  limits = refl;
  modes = refl;
  so_far = come_none _ _ _ _ _ _ _ (g.met.S.Sink.writes_none c.args.sink.now);
}

pub pairs-preserved-in-One-default-eq2 : goal.pairs-preserved-in-One-default-eq2
pairs-preserved-in-One-default-eq2 g c =
    let i = c.pairs.invariant in
    let one = c.in-One-default-eq2 in
    let rest : List ℕ = c.pairs.rest.now in
    let P = g.F.DecoderRule.pieces c.pairs.codec in
    let P' = g.F.DecoderRule.pieces c.pass.new.self in
    let behind = g.F.DecoderRule.after c.pairs.codec (take 2 rest) in
    let size : one.field-1 ≡ 2 = one.field-1-test in
    let first : IsFirstPiece P P' (take 2 rest) false (well_formed 2 (one.c ∷ [])) =
    rw c.pass.ensures (subst (λ (n : ℕ). IsFirstPiece P (g.F.DecoderRule.pieces behind) (take 2 rest) false (well_formed n (one.c ∷ []))) size one.ensures.piece) in
    let room : (k : _) (m : ℕ) → cost_in (is_units k) one.c + g.F.DecoderRule.needs c.pass.new.self k m ≤ g.F.DecoderRule.needs c.pairs.codec k (2 + m) = λ k m.
    rw c.pass.ensures (subst (λ (n : ℕ). cost_in (is_units k) one.c + g.F.DecoderRule.needs behind k m ≤ g.F.DecoderRule.needs c.pairs.codec k (n + m)) size (one.ensures.room k m (λ no. absurd (untrue no)))) in
    let some : 2 ≤ length rest = omega (arith, c.pairs-test.true, i.bytes) in
    let cost = g.met.S.Sink.cost_is one.c in
    let cheap : g.S.Sink.cost one.c ≤ 3 = omega (arith, cost, basic_cost g.S.Sink.is_units one.c (omega (arith, c.if-c-le65535.true))) in
    record {
      bytes = omega (arith, i.bytes, some, c.pairs-test.true);
      room = omega (arith, i.room, c.put.ensures.free, cheap);
      limits = ap g.F.DecoderRule.limits c.pass.ensures ∙ g.F.DecoderRule.steady c.pairs.codec (take 2 rest) ∙ i.limits;
      modes = ap g.F.DecoderRule.in_mode c.pass.ensures ∙ g.F.DecoderRule.modes_stay c.pairs.codec (take 2 rest) ∙ i.modes;
      so_far = come_character _ P P' _ _ _ g.S.Sink.is_units c.args.src.now rest _ _ _ (λ t. g.S.Sink.writes c.args.sink.now t c.pairs.sink) _ one.c 2 i.so_far first (omega (arith, some)) room (omega (arith, c.put.ensures.free, cost))
          (λ t w. g.met.S.Sink.writes_more _ _ _ t (one.c ∷ []) w c.put.ensures.writes);
    }

pub pairs-preserved : goal.pairs-preserved
pairs-preserved g c =
    let i = c.pairs.invariant in
    let one = c.in-One-default-eq1 in
    let rest : List ℕ = c.pairs.rest.now in
    let P = g.F.DecoderRule.pieces c.pairs.codec in
    let P' = g.F.DecoderRule.pieces c.pass-in-One-default-eq1.new.self in
    let behind = g.F.DecoderRule.after c.pairs.codec (take 2 rest) in
    let size : one.field-1 ≡ 1 = one.field-1-test in
    let first : IsFirstPiece P P' (take 2 rest) false (well_formed 1 (one.c ∷ [])) =
    rw c.pass-in-One-default-eq1.ensures (subst (λ (n : ℕ). IsFirstPiece P (g.F.DecoderRule.pieces behind) (take 2 rest) false (well_formed n (one.c ∷ []))) size one.ensures.piece) in
    let room : (k : _) (m : ℕ) → cost_in (is_units k) one.c + g.F.DecoderRule.needs c.pass-in-One-default-eq1.new.self k m ≤ g.F.DecoderRule.needs c.pairs.codec k (1 + m) = λ k m.
    rw c.pass-in-One-default-eq1.ensures (subst (λ (n : ℕ). cost_in (is_units k) one.c + g.F.DecoderRule.needs behind k m ≤ g.F.DecoderRule.needs c.pairs.codec k (n + m)) size (one.ensures.room k m (λ no. absurd (untrue no)))) in
    let some : 2 ≤ length rest = omega (arith, c.pairs-test.true, i.bytes) in
    let cost = g.met.S.Sink.cost_is one.c in
    let cheap : g.S.Sink.cost one.c ≤ 3 = omega (arith, cost, basic_cost g.S.Sink.is_units one.c (omega (arith, c.if-c-lt128.true))) in
    record {
      bytes = omega (arith, i.bytes, some, c.pairs-test.true);
      room = omega (arith, i.room, c.put-in-One-default-eq1.ensures.free, cheap);
      limits = ap g.F.DecoderRule.limits c.pass-in-One-default-eq1.ensures ∙ g.F.DecoderRule.steady c.pairs.codec (take 2 rest) ∙ i.limits;
      modes = ap g.F.DecoderRule.in_mode c.pass-in-One-default-eq1.ensures ∙ g.F.DecoderRule.modes_stay c.pairs.codec (take 2 rest) ∙ i.modes;
      so_far = come_character _ P P' _ _ _ g.S.Sink.is_units c.args.src.now rest _ _ _ (λ t. g.S.Sink.writes c.args.sink.now t c.pairs.sink) _ one.c 1 i.so_far first (omega (arith, some)) room (omega (arith, c.put-in-One-default-eq1.ensures.free, cost))
          (λ t w. g.met.S.Sink.writes_more _ _ _ t (one.c ∷ []) w c.put-in-One-default-eq1.ensures.writes);
    }
