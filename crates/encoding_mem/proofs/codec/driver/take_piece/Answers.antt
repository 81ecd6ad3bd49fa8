use Rattle.std.proofs.Common.{◌≤◌, false, IsTrue, [], ◌∷◌, length, refl, arith}
use Rattle.encoding_mem.specs.Piece.{well_formed}
use Rattle.encoding_mem.specs.calls.DecodedLength.{counts_past_malformed, cost_in, replacement_len, two_in}
use Rattle.encoding_mem.proofs.DecoderCallLemmas.{has_room, replacement_first}
use Rattle.encoding_mem.proofs.codec.driver.take_piece.Goals as goal

pub returns-else-not-has_room-clause-step : goal.returns-else-not-has_room-clause-step
returns-else-not-has_room-clause-step g c = (
  well_formed c.in-Two.n (c.in-Two.c ∷ c.in-Two.d ∷ []),
  tt,
  refl,
  rw c.pass-in-Two.ensures c.in-Two.ensures.piece.0,
  g.met.S.Sink.writes_more _ _ _ (c.in-Two.c ∷ []) (c.in-Two.d ∷ []) c.put-in-Two.ensures.writes c.put-in-Two-2.ensures.writes,
)

pub returns-then-not-fits-clause-room : goal.returns-then-not-fits-clause-room
returns-then-not-fits-clause-room g c k m units window whole h =
    let e = c.in-One.ensures in
    let fits : cost_in g.S.Sink.is_units c.in-One.c ≤ g.S.Sink.free c.args.sink.now = has_room (g.F.DecoderRule.needs c.args.codec.now) (λ t. cost_in t c.in-One.c) c.in-One.n (length c.args.bytes.now) m (g.S.Sink.free c.args.sink.now) c.args.last g.S.Sink.is_units k units e.piece.within window whole (λ j l. omega (arith, e.room k j l)) h in
    let no : IsTrue false = c.if-not-fits.ensures.1 (omega (arith, g.met.S.Sink.cost_is c.in-One.c, fits)) in cc

pub returns-then-not-has_room-clause-room : goal.returns-then-not-has_room-clause-room
returns-then-not-has_room-clause-room g c k m units window whole h =
    let e = c.in-Two.ensures in
    let fits : two_in g.S.Sink.is_units ≤ g.S.Sink.free c.args.sink.now = has_room (g.F.DecoderRule.needs c.args.codec.now) two_in c.in-Two.n (length c.args.bytes.now) m (g.S.Sink.free c.args.sink.now) c.args.last g.S.Sink.is_units k units e.piece.0.within window whole (λ j l. (e.room k j l).0) h in
    let no : IsTrue false = c.if-not-has_room.ensures.1 (omega (arith, g.met.S.Sink.room_is, fits)) in cc

pub returns-then-not-fits-2-clause-room : goal.returns-then-not-fits-2-clause-room
returns-then-not-fits-2-clause-room g c k m units window whole h =
    let e = c.in-Malformed.ensures in
    let fits : replacement_len g.S.Sink.is_units ≤ g.S.Sink.free c.args.sink.now = has_room (g.F.DecoderRule.needs c.args.codec.now) replacement_len c.in-Malformed.n (length c.args.bytes.now) m (g.S.Sink.free c.args.sink.now) c.args.last g.S.Sink.is_units k units e.piece.0.within window whole (λ j l. replacement_first (counts_past_malformed k) _ _ _ (e.room k j l)) h in
    let no : IsTrue false = c.if-not-fits-2.ensures.1 (omega (arith, g.met.S.Sink.cost_is 0xFFFD, fits)) in cc
