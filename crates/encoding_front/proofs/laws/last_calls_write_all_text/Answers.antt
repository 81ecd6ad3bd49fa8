use Rattle.std.proofs.Common.{refl}
use Rattle.encoding_mem.specs.declared.codec.decoder_result.DecoderResult.{DecoderResult}
use Rattle.encoding_front.specs.calls.DecoderCall.{HasText}
use Rattle.encoding_front.specs.laws.Calls.{wrote_scalars, wrote_text}
use Rattle.encoding_front.specs.declared.coder_result.CoderResult.{CoderResult}
use Rattle.encoding_front.proofs.laws.last_calls_write_all_text.Goals as goal

pub returns : goal.returns
returns c = record {
  replaced = λ v v' src read there left had_errors call. (wrote_text v v' src read (HasText there) left CoderResult.InputEmpty had_errors call refl).0;
  errors = λ v v' src read there left had_errors call. (wrote_text v v' src read (HasText there) left CoderResult.InputEmpty had_errors call refl).1;
  reported = λ v v' src read there left call. (wrote_scalars v v' src read (HasText there) left DecoderResult.InputEmpty call refl).0;
  well_formed = λ v v' src read there left call. (wrote_scalars v v' src read (HasText there) left DecoderResult.InputEmpty call refl).1;
}
