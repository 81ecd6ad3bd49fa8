use Rattle.encoding_front.specs.calls.DecoderCall.{HasText}
use Rattle.encoding_front.specs.laws.SavedDecoders.{call_alike, saved_alike, text_alike}
use Rattle.encoding_front.proofs.laws.resumed_decoders_go_on.Goals as goal

pub returns : goal.returns
returns c = record {
  alike = saved_alike;
  reported = λ v u after src last read there left outcome alike call. call_alike v u after src last read (HasText there) left outcome alike call;
  replaced = λ v u after src last read there left outcome had_errors alike call. text_alike v u after src last read (HasText there) left outcome had_errors alike call;
}
