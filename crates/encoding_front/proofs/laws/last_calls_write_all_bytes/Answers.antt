use Rattle.std.proofs.Common.{refl}
use Rattle.encoding_mem.specs.declared.codec.encoder_result.EncoderResult.{EncoderResult}
use Rattle.encoding_front.specs.laws.Calls.{wrote_mapped, wrote_replaced}
use Rattle.encoding_front.specs.declared.coder_result.CoderResult.{CoderResult}
use Rattle.encoding_front.proofs.laws.last_calls_write_all_bytes.Goals as goal

pub returns : goal.returns
returns c = record {
  replaced = λ x x' text written rest lost size call. (wrote_replaced x x' text written rest lost size CoderResult.InputEmpty call refl).0;
  references = λ x x' text written rest lost size call. (wrote_replaced x x' text written rest lost size CoderResult.InputEmpty call refl).1;
  reported = λ x x' text written rest room call. (wrote_mapped x x' text written rest room EncoderResult.InputEmpty call refl).0;
  mapped = λ x x' text written rest room call. (wrote_mapped x x' text written rest room EncoderResult.InputEmpty call refl).1;
}
