use Rattle.std.proofs.Common.{◌≡◌, ◌+◌}
use denote.Text.{Utf8}
use denote.Shadow.{shadow}
use Rattle.std.specs.Str.{chars}
use Rattle.encoding_mem.specs.Coding.{lost_count}
use Rattle.encoding_front.specs.Encodings.{coding_of}
use Rattle.encoding_front.specs.calls.Encoder.{coding_in}
use Rattle.test_examples.proofs.lost_characters.count_lost.Given as goal

abbrev pub invariant-turns : goal.invariant-turns
invariant-turns l = record {
  utf8 : shadow (Utf8 l.rest);
  coding : coding_in l.encoder ≡ coding_of l.fn.tables l.fn.encoding;
  counted : l.lost + lost_count (coding_of l.fn.tables l.fn.encoding) (chars l.rest) ≡ lost_count (coding_of l.fn.tables l.fn.encoding) (chars l.fn.text);
}
