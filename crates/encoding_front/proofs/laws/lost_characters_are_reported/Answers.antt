use Rattle.std.proofs.Common.{refl}
use Rattle.encoding_mem.specs.declared.codec.encoder_result.EncoderResult.{EncoderResult}
use Rattle.encoding_front.specs.laws.Calls.{none_reported, one_reported}
use Rattle.encoding_front.proofs.laws.lost_characters_are_reported.Goals as goal

pub returns : goal.returns
returns c = record {
  one = λ x x' last text written rest room d call. one_reported x x' last text written rest room d (EncoderResult.Unmappable d) call refl;
  none = none_reported;
}
