use Rattle.std.proofs.Common.{◌≡◌, ◌+◌, ◌++◌, length, ◌∙◌, ap, arith, length-drop}
use Rattle.encoding_mem.specs.calls.DecodedLength.{replacement_len, two_in}
use Rattle.encoding_mem.specs.laws.Latency.{call_takes_soon, takes_soon}
use Rattle.encoding_front.specs.calls.DecoderCall.{HasText}
use Rattle.encoding_front.proofs.laws.pieces_are_passed_soon.Goals as goal

pub returns-clause-reported : goal.returns-clause-reported
returns-clause-reported c v v' src last read there left call =
    call_takes_soon v.state v'.state src last read (HasText there) left.free (two_in left.in_units) (replacement_len left.in_units) call.law call.ends

pub returns-clause-replaced : goal.returns-clause-replaced
returns-clause-replaced c v v' src last read there left had_errors call =
    let whole : read ≡ length src = omega (arith, ap length call.ends.0, length-drop read src, call.law.within) in
    takes_soon v.state.pieces v'.state.pieces src last (v.state.pending + length src) v'.state.pending call.law.taken (omega (arith, call.law.counted, whole))
    (λ r stops. call.law.rest r stops ∙ ap (λ x. call.law.taken ++ v'.state.pieces (x ++ r)) call.ends.0) call.ends.1
