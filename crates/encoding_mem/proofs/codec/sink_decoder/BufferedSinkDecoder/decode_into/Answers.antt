use Rattle.std.proofs.Common.{◌+◌, ◌∙◌}
use Rattle.std.proofs.lemmas.List.{take_rest}
use Rattle.encoding_mem.specs.calls.Decoding.{sink_room}
use Rattle.encoding_mem.specs.calls.Driver.{driver_state}
use Rattle.encoding_mem.proofs.DecoderCallLemmas.{calls_join, state_call}
use Rattle.encoding_mem.proofs.codec.sink_decoder.BufferedSinkDecoder.decode_into.Goals as goal

pub returns-in-Some-clause-call : goal.returns-in-Some-clause-call
returns-in-Some-clause-call g c =
    let F = g.F.DecoderRule in
    let old = c.args.self.now in
    let first = c.finish_pending-ended in
    let rule = first.new.codec in
    state_call (F.pieces old.rule) (F.pieces rule) (F.whole old.rule) (F.whole rule) (F.are_pieces old.rule) (F.are_pieces rule) (F.needs old.rule) (F.needs rule) (F.limits old.rule) (F.limits rule) (F.covers old.rule) (F.covers rule)
    old.pending first.new.pending c.args.src.now c.args.last first.result.1 (λ text. g.S.Sink.writes c.args.sink.now text first.new.sink) (sink_room g.S.Sink.is_units g.S.Sink.free c.args.sink.now first.new.sink) c.in-Some.outcome
    (F.ends rule) first.ensures.limits (rw c.in-Some.is at first.ensures.call)

pub returns-clause-call : goal.returns-clause-call
returns-clause-call g c =
    let F = g.F.DecoderRule in
    let S = g.S.Sink in
    let old = c.args.self.now in
    let first = c.finish_pending-ended in
    let second = c.decode_detached-outcome in
    let rule = second.new.codec in
    let begun = rw c.in_default.is at first.ensures.call in
    let then = second.ensures.call in
    let all = calls_join (driver_state F.pieces F.needs old.rule old.pending) (driver_state F.pieces F.needs first.new.codec first.new.pending) (driver_state F.pieces F.needs rule second.new.pending) c.args.src.now _ c.args.last first.result.1 second.result.1
    (λ text. S.writes c.args.sink.now text first.new.sink) (λ text. S.writes first.new.sink text second.new.sink) (λ text. S.writes c.args.sink.now text second.new.sink) S.is_units (S.free c.args.sink.now) (S.free first.new.sink) (S.free second.new.sink) second.result.0
    (take_rest c.args.src.now first.result.1) (λ t u h k. g.met.S.Sink.writes_more _ _ _ t u h k) begun then in
    state_call (F.pieces old.rule) (F.pieces rule) (F.whole old.rule) (F.whole rule) (F.are_pieces old.rule) (F.are_pieces rule) (F.needs old.rule) (F.needs rule) (F.limits old.rule) (F.limits rule) (F.covers old.rule) (F.covers rule)
    old.pending second.new.pending c.args.src.now c.args.last (first.result.1 + second.result.1) (λ text. S.writes c.args.sink.now text second.new.sink) (sink_room S.is_units S.free c.args.sink.now second.new.sink) second.result.0
    (F.ends rule) (second.ensures.limits ∙ first.ensures.limits) all
