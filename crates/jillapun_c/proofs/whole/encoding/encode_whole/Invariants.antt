use Rattle.std.proofs.Common.{◌≡◌, ◌+◌, length}
use denote.Text.{Utf8}
use denote.Shadow.{shadow}
use Rattle.std.specs.Str.{chars}
use Rattle.encoding_mem.specs.Coding.{whole_from}
use Rattle.encoding_mem.specs.declared.codec.reference.Reference.TheVariants.{Decimal}
use Rattle.encoding_front.specs.calls.Encoder.{coding_in}
use Rattle.jillapun_c.proofs.WholeLemmas.{EncodedSoFar, calls_left}
use Rattle.jillapun_c.proofs.whole.encoding.encode_whole.Given as goal

abbrev pub invariant-parts : goal.invariant-parts
invariant-parts l = shadow (Utf8 l.rest) × record {
  so_far : EncodedSoFar l.fn.encoder l.encoder (chars l.text) (chars l.rest) l.fn.dst l.dst l.result l.has_lost l.filled;
  size : length l.room ≡ 1024;
}

abbrev pub decreases-parts : goal.decreases-parts
decreases-parts l = length (whole_from Decimal (coding_in l.encoder) l.encoder.set (chars l.rest)) + calls_left l.result
