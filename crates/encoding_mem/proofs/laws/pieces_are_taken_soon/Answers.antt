use Rattle.encoding_mem.specs.calls.Writing.{Adds}
use Rattle.encoding_mem.specs.laws.Latency.{call_takes_soon}
use Rattle.encoding_mem.proofs.laws.pieces_are_taken_soon.Goals as goal

pub returns : goal.returns
returns c before after src last read encode old new written free room replacement law ends =
    call_takes_soon before after src last read (λ text. Adds old 0 (encode text) new written) free room replacement law ends
