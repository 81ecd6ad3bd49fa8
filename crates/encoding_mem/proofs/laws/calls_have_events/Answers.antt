use Rattle.encoding_mem.specs.laws.Event.{event_law}
use Rattle.encoding_mem.specs.calls.Writing.{Adds}
use Rattle.encoding_mem.proofs.laws.calls_have_events.Goals as goal

pub returns : goal.returns
returns c = λ before after src last read encode old new written outcome. event_law before after src last read (λ text. Adds old 0 (encode text) new written) outcome
