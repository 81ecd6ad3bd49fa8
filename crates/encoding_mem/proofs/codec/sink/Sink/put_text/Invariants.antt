use denote.Shadow.{shadow}
use denote.Text.{Utf8}
use Rattle.std.proofs.Common.{◌≡◌, ◌+◌, ◌≤◌, ℕ, List, ◌++◌, length}
use Rattle.std.specs.Str.{chars}
use Rattle.encoding_mem.specs.calls.TextRun.{text_len}
use Rattle.encoding_mem.proofs.codec.sink.Sink.put_text.Given as goal

abbrev pub invariant-characters : goal.invariant-characters
invariant-characters g l = record {
  utf8 : shadow (Utf8 l.rest);
  room : length l.rest ≤ g.Self.Sink.free l.self;
  free : g.Self.Sink.free l.self + text_len g.Self.Sink.is_units l.initial.rest ≡ g.Self.Sink.free l.initial.self + text_len g.Self.Sink.is_units l.rest;
  wrote : (put : List ℕ) × (chars l.initial.rest ≡ put ++ chars l.rest) × g.Self.Sink.writes l.initial.self put l.self;
}

abbrev pub decreases-characters : goal.decreases-characters
decreases-characters g l = length l.rest
