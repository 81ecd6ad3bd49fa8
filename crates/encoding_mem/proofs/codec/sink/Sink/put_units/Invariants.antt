use Rattle.std.proofs.Common.{◌≡◌, ◌+◌, ◌*◌, ◌≤◌, take, encode_utf8_all}
use Rattle.encoding_mem.specs.calls.TextRun.{text_len}
use Rattle.encoding_mem.proofs.codec.sink.Sink.put_units.Given as goal

abbrev pub invariant-loop-unit : goal.invariant-loop-unit
invariant-loop-unit g l = record {
  room : 96 ≤ g.Self.Sink.free l.self + 3 * l.unit-index;
  free : g.Self.Sink.free l.self + text_len g.Self.Sink.is_units (encode_utf8_all (take l.unit-index l.units)) ≡ g.Self.Sink.free l.initial.self;
  wrote : g.Self.Sink.writes l.initial.self (take l.unit-index l.units) l.self;
}
