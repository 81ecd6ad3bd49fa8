use Rattle.std.proofs.Common.{refl}
use Rattle.encoding_front.proofs.decoder.saved_decoder.SavedDecoder.room_rule.Goals as goal

pub returns : goal.returns
returns c = rw c.can_be.ensures (rw c.can_be_utf16.ensures (rw c.ahead.ensures (rw c.as_slice-held.ensures.bytes (rw c.as_slice.ensures.bytes refl))))
