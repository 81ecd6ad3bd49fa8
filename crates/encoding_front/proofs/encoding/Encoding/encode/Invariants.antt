use Rattle.std.proofs.Common.{◌≡◌, ◌≤◌, false, None, length}
use Rattle.std.specs.Str.{IsUtf8, chars}
use Rattle.encoding_front.specs.calls.Encoder.{queried_with_kept}
use Rattle.encoding_front.proofs.ReferenceLemmas.{Passed}
use Rattle.encoding_front.proofs.encoding.Encoding.encode.Given as goal

abbrev pub invariant-text : goal.invariant-text
invariant-text l = record {
  utf8 : IsUtf8 l.rest;
  within : length l.rest ≤ length l.initial.rest;
  passed : Passed l.initial.encoder (chars l.initial.rest) l.bytes.items l.encoder (chars l.rest) l.has_lost;
  first : queried_with_kept l.initial.encoder.encoding false (length l.initial.rest) ≡ None → l.rest ≡ l.initial.rest;
}

abbrev pub decreases-text : goal.decreases-text
decreases-text l = length (chars l.rest)
