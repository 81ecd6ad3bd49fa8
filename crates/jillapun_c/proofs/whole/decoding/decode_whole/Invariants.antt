use Rattle.std.proofs.Common.{◌≡◌, ◌+◌, length, drop}
use Rattle.encoding_front.specs.calls.DecoderViews.{decoder_view}
use Rattle.jillapun_c.proofs.WholeLemmas.{DecodedSoFar, more_calls}
use Rattle.jillapun_c.proofs.whole.decoding.decode_whole.Given as goal

abbrev pub invariant-parts : goal.invariant-parts
invariant-parts l = record {
  so_far : DecodedSoFar (decoder_view l.fn.decoder) (decoder_view l.decoder) l.src l.expected l.fn.dst l.dst l.replaces l.read l.part.end l.had_errors l.filled l.left;
  size : length l.room ≡ 1024;
}

abbrev pub decreases-parts : goal.decreases-parts
decreases-parts l = length ((decoder_view l.decoder).state.pieces (drop l.read l.src)) + more_calls l.part.end
