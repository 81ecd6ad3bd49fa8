use Rattle.std.proofs.Common.{◌≡◌, []}
use Rattle.encoding_mem.specs.calls.Decoding.{sink_room}
use Rattle.encoding_mem.proofs.DecoderCallLemmas.{nothing_remains, state_call}
use Rattle.encoding_mem.proofs.codec.bytewise.BytewiseSinkDecoder.decode_into.Goals as goal

pub returns-clause-call : goal.returns-clause-call
returns-clause-call g c =
    let F = g.F.DecoderRule in
    let S = g.S.Sink in
    let old = c.args.self.now.rule in
    let d = c.decode_detached in
    let rule = d.new.codec in
    let none : d.new.pending ≡ [] = nothing_remains (F.pieces rule) d.new.pending (g.met.F.DecidedPiece.decided rule) d.ensures.waits in
    let call = rw none at d.ensures.call in
    state_call (F.pieces old) (F.pieces rule) (F.whole old) (F.whole rule) (F.are_pieces old) (F.are_pieces rule) (F.needs old) (F.needs rule) (F.limits old) (F.limits rule) (F.covers old) (F.covers rule)
    [] [] c.args.src.now c.args.last d.result.1 (λ text. S.writes c.args.sink.now text d.new.sink) (sink_room S.is_units S.free c.args.sink.now d.new.sink) d.result.0 (F.ends rule) d.ensures.limits call
