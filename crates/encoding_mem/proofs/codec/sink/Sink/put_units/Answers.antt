use Rattle.std.proofs.Common.{◌≡◌, ◌∙◌, ◌<◌, ◌∷◌, [], get_or, take, length, ap, arith}
use Rattle.std.proofs.lemmas.List.{take_more}
use Rattle.encoding_mem.proofs.SinkLemmas.{no_units, unit_cost, units_more}
use Rattle.encoding_mem.specs.calls.DecodedLength.{cost_in}
use Rattle.encoding_mem.proofs.codec.sink.Sink.put_units.Goals as goal

pub loop-unit-init : goal.loop-unit-init
loop-unit-init g c = record {
  room = omega (arith, c.requires.room);
  free = omega (arith, no_units g.Self.Sink.is_units);
  wrote = g.met.Self.Sink.writes_none c.args.self.now;
}

pub loop-unit-preserved : goal.loop-unit-preserved
loop-unit-preserved g c =
    let i = c.loop-unit.invariant in
    let us = c.args.units.now in
    let n = c.loop-unit.unit-index in
    let b = g.Self.Sink.is_units in
    let some : n < length us = c.loop-unit-test.true in
    let unit : c.scalar_of.result ≡ get_or us n 0 = c.scalar_of.ensures ∙ c.from.ensures in
    let more = units_more b us n c.requires.plain some in
    let cost : g.Self.Sink.cost c.scalar_of.result ≡ cost_in b (get_or us n 0) = g.met.Self.Sink.cost_is c.scalar_of.result ∙ ap (cost_in b) unit in
    let few = unit_cost b (get_or us n 0) (c.requires.plain n) in
    record {
      room = omega (arith, i.room, c.put.ensures.free, cost, few);
      free = omega (arith, i.free, c.put.ensures.free, cost, more);
      wrote =
          rw (take_more us n 0 some) (rw (← unit) (g.met.Self.Sink.writes_more _ _ _ (take n us) (c.scalar_of.result ∷ []) i.wrote c.put.ensures.writes));
    }
