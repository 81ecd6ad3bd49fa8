use Rattle.std.proofs.Common.{◌≡◌, ℕ, ◌*◌, ◌-◌, ◌<◌, ◌≤◌, List, length, take, drop, false, length-take, refl, subst, ap, ◌∙◌, arith, encode_utf8_all, rules}
use Rattle.std.proofs.lemmas.List.{length-take-le}
use Rattle.encoding_mem.specs.Piece.{AreWellFormed, piece_scalars}
use Rattle.encoding_mem.specs.calls.Decoding.{Takes}
use Rattle.encoding_mem.specs.calls.TextRun.{text_len}
use Rattle.encoding_mem.proofs.DriverLemmas.{come_more, come_none, come_piece, ends_empty, ends_full, ends_malformed, ends_waiting, run_room, text_taken, units_taken}
use Rattle.encoding_mem.proofs.codec.driver.decode_pieces.Goals as goal

pub pieces-init : goal.pieces-init
pieces-init g c = record {
  none = c.requires;
  limits = refl;
  modes = refl;
  so_far = come_none _ _ _ _ _ _ _ (g.met.S.Sink.writes_none c.args.sink.now);
}

pub pieces-preserved-then-not-is_empty : goal.pieces-preserved-then-not-is_empty
pieces-preserved-then-not-is_empty g c =
    let i = c.pieces.invariant in
    let e = c.text_at-text.ensures in
    let rest : List ℕ = c.pieces.rest.now in
    let text : List ℕ = c.text_at-text.result.now in
    let fits : length text ≤ length rest = omega (arith, ap length e.prefix, length-take (length text) rest) in
    let P = g.F.DecoderRule.pieces c.pieces.codec in
    let W = λ (t : List ℕ). g.S.Sink.writes c.pieces.sink t c.put_text.new.self in
    record {
      none = i.none;
      limits = i.limits;
      modes = i.modes;
      so_far = come_more _ P P _ _ _ g.S.Sink.is_units c.args.last c.args.src.now rest _ _ _ (λ t. g.S.Sink.writes c.args.sink.now t c.pieces.sink) W _ (length text) i.so_far
          (text_taken P rest text W e.prefix c.text_at-text.utf8 e.pieces c.put_text.ensures.writes)
          (run_room (g.F.DecoderRule.needs c.pieces.codec) g.S.Sink.is_units (length rest) (length text) (λ t. text_len t text) (g.S.Sink.free c.pieces.sink) (g.S.Sink.free c.put_text.new.self) fits e.room c.put_text.ensures.free)
          (λ t u h k. g.met.S.Sink.writes_more _ _ _ t u h k);
    }

pub pieces-preserved-then-count-gt0 : goal.pieces-preserved-then-count-gt0
pieces-preserved-then-count-gt0 g c =
    let i = c.pieces.invariant in
    let e = c.units_at-count.ensures in
    let rest : List ℕ = c.pieces.rest.now in
    let count = c.units_at-count.result.1 in
    let units : List ℕ = take count c.units_at-count.result.0 in
    let size : length units ≡ count = length-take-le count c.units_at-count.result.0 (omega (arith, e.whole, e.few)) in
    let P = g.F.DecoderRule.pieces c.pieces.codec in
    let W = λ (t : List ℕ). g.S.Sink.writes c.pieces.sink t c.put_units.new.self in
    record {
      none = i.none;
      limits = i.limits;
      modes = i.modes;
      so_far = come_more _ P P _ _ _ g.S.Sink.is_units c.args.last c.args.src.now rest _ _ _ (λ t. g.S.Sink.writes c.args.sink.now t c.pieces.sink) W _ (2 * count) i.so_far
          (subst (λ n. Takes AreWellFormed P P rest false 0 0 (2 * n) W) size (units_taken P rest units W e.units c.put_units.ensures.writes))
          (run_room (g.F.DecoderRule.needs c.pieces.codec) g.S.Sink.is_units (length rest) (2 * count) (λ t. text_len t (encode_utf8_all units)) (g.S.Sink.free c.pieces.sink) (g.S.Sink.free c.put_units.new.self) (omega (arith, size, e.units.within)) e.room c.put_units.ensures.free)
          (λ t u h k. g.met.S.Sink.writes_more _ _ _ t u h k);
    }

pub pieces-preserved : goal.pieces-preserved
pieces-preserved g c =
    let s = c.in-Took.ensures.step in
    let i = c.pieces.invariant in
    let n : ℕ = c.in-Took.n in
    let pairs = c.take_pairs-pairs in
    let rest : List ℕ = c.pieces.rest.now in
    let P = g.F.DecoderRule.pieces c.take_piece.new.codec in
    let W = λ (t : List ℕ). g.S.Sink.writes c.args.sink.now t c.take_piece.new.sink in
    let piece = come_piece (g.F.DecoderRule.pieces c.args.codec.now) (g.F.DecoderRule.pieces c.pieces.codec) P (g.F.DecoderRule.needs c.args.codec.now) (g.F.DecoderRule.needs c.pieces.codec) (g.F.DecoderRule.needs c.take_piece.new.codec)
    g.S.Sink.is_units c.args.last c.args.src.now rest (g.S.Sink.free c.args.sink.now) (g.S.Sink.free c.pieces.sink) (g.S.Sink.free c.take_piece.new.sink)
    (λ t. g.S.Sink.writes c.args.sink.now t c.pieces.sink) W s.0 n i.so_far s.1 s.2 s.3 c.in-Took.ensures.room (λ t w. g.met.S.Sink.writes_more _ _ _ t (piece_scalars s.0) w s.4) in
    record {
      none = i.none;
      limits = pairs.ensures.limits ∙ c.take_piece.ensures.limits ∙ i.limits;
      modes = pairs.ensures.modes ∙ c.take_piece.ensures.modes ∙ i.modes;
      so_far = come_more _ P (g.F.DecoderRule.pieces pairs.new.codec) _ _ _ g.S.Sink.is_units c.args.last c.args.src.now (take (length rest - n) (drop n rest)) _ _ _ W (λ t. g.S.Sink.writes c.take_piece.new.sink t pairs.new.sink) _ pairs.result piece
          pairs.ensures.law pairs.ensures.enough (λ t u h k. g.met.S.Sink.writes_more _ _ _ t u h k);
    }

pub returns-in-Broke-clause-call : goal.returns-in-Broke-clause-call
returns-in-Broke-clause-call g c =
    let s = c.in-Broke.ensures.step in
    let i = c.pieces.invariant in
    let F = g.F.DecoderRule in
    ends_malformed (F.pieces c.args.codec.now) (F.pieces c.pieces.codec) (F.pieces c.take_piece.new.codec) (F.needs c.args.codec.now) (F.needs c.pieces.codec) (F.needs c.take_piece.new.codec) g.S.Sink.is_units c.args.last c.args.src.now c.pieces.rest.now _
    (g.S.Sink.free c.pieces.sink) _ (λ t. g.S.Sink.writes c.args.sink.now t c.pieces.sink) _ c.pieces.pending c.in-Broke.n i.none i.so_far s.0 s.1 (λ t w. rw s.2 w) (subst (λ n. n ≤ g.S.Sink.free c.take_piece.new.sink) (g.met.S.Sink.cost_is 0xFFFD) s.3) c.in-Broke.ensures.room

pub returns-in-Full-clause-call : goal.returns-in-Full-clause-call
returns-in-Full-clause-call g c =
    let s = c.in-Full.ensures.step in
    let i = c.pieces.invariant in
    let F = g.F.DecoderRule in
    let free = g.S.Sink.free in
    let room = c.in-Full.ensures.room in
    rw (s.2, s.3)
    (ends_full (F.pieces c.args.codec.now) (F.pieces c.pieces.codec) (F.needs c.args.codec.now) (F.needs c.pieces.codec) g.S.Sink.is_units c.args.last c.args.src.now c.pieces.rest.now (free c.args.sink.now) (free c.pieces.sink)
    (λ t. g.S.Sink.writes c.args.sink.now t c.pieces.sink) c.pieces.pending i.none i.so_far (subst (λ n. free c.pieces.sink < n) g.met.S.Sink.room_is (rw s.3 at s.0)) s.1 room)

pub returns-in-Wait-clause-call : goal.returns-in-Wait-clause-call
returns-in-Wait-clause-call g c =
    let s = c.in-Wait.ensures.step in
    let i = c.pieces.invariant in
    let F = g.F.DecoderRule in
    let free = g.S.Sink.free in
    rw (s.4, s.5)
    (ends_waiting (F.pieces c.args.codec.now) (F.pieces c.pieces.codec) (F.needs c.args.codec.now) (F.needs c.pieces.codec) g.S.Sink.is_units c.args.last c.args.src.now c.pieces.rest.now (free c.args.sink.now) (free c.pieces.sink)
    (λ t. g.S.Sink.writes c.args.sink.now t c.pieces.sink) c.fill.new.self c.fill.ensures i.so_far s.0 s.1 s.2 s.3)

pub returns-clause-call : goal.returns-clause-call
returns-clause-call g c =
    let i = c.pieces.invariant in
    let nothing : length c.pieces.rest.now ≡ 0 = search rules in
    ends_empty _ _ _ _ _ _ _ _ _ _ _ c.pieces.pending i.none i.so_far nothing
