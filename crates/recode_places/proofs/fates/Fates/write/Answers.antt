use Rattle.std.proofs.Common.{arith}
use Rattle.recode_places.proofs.FateLemmas.{one_none, one_written, room_is_enough}
use Rattle.recode_places.proofs.fates.Fates.write.Goals as goal

pub returns-in-Unmappable-clause-written : goal.returns-in-Unmappable-clause-written
returns-in-Unmappable-clause-written c =
    let call = c.encode_from_utf8_without_replacement-result in
    one_none c.args.self.now.tables.now c.args.self.now.to c.args.c c.new_encoder-encoder.result call.new.self _ _ _ _ c.new_encoder-encoder.ensures.state c.encode_utf8.utf8 c.encode_utf8.ensures.value _
    (rw c.in-Unmappable.is at call.ensures.call)

pub returns-in_default-clause-written : goal.returns-in_default-clause-written
returns-in_default-clause-written c =
    let call = c.encode_from_utf8_without_replacement-result in
    one_written c.args.self.now.tables.now c.args.self.now.to c.args.c c.new_encoder-encoder.result call.new.self _ _ _ _ c.new_encoder-encoder.ensures.state c.encode_utf8.utf8 c.encode_utf8.ensures.value call.result.0 c.in_default.not-Unmappable
    (call.ensures.enough (omega (arith, room_is_enough c.new_encoder-encoder.result.encoding _ c.encode_utf8.ensures.upper_bound, c.fits-bytes))) call.ensures.call
