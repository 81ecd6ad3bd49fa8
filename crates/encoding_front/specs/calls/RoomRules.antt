-- What the length queries of a decoder depend on, as plain values.
use Rattle.std.specs.Prelude.{ℕ, ◌+◌, ◌||◌, Option, [], length}
use Rattle.encoding_mem.specs.calls.Resuming.{saved_bytes, saved_pending}
use Rattle.encoding_mem.specs.calls.DecodedLength.{queried, decoded_length_utf8, decoded_length_utf16}
use Rattle.encoding_mem.specs.declared.codec.room.OutputUnit.{OutputUnit}
use Rattle.encoding_front.specs.calls.CodecBounds.{decoded_length_of}
use Rattle.encoding_front.specs.calls.Seeking.{can_be}
use Rattle.encoding_front.specs.calls.Stream.{DecoderView, ahead, greater_if}
use Rattle.encoding_front.specs.declared.decoder.room_rule.RoomRule.{RoomRule}
use Rattle.encoding_front.specs.declared.decoder.saved_decoder.SavedDecoder.{SavedDecoder}
use Rattle.encoding_front.specs.declared.seeking.ByteOrderMark.TheVariants.{Utf8, Utf16Be, Utf16Le}

-- the room that is enough for n more bytes: the greatest among those of the encodings that the input may still turn out
-- to be in
abbrev pub room_by : RoomRule → OutputUnit → ℕ → Option ℕ
room_by r k n =
    greater_if r.may_be_utf16 (queried decoded_length_utf16 k (n + r.ahead))
    (greater_if r.may_be_utf8 (queried decoded_length_utf8 k (n + r.ahead))
    (queried (decoded_length_of r.encoding) k (r.pending + (n + r.ahead))))

-- these values of what was saved of a decoder
abbrev pub saved_rule : SavedDecoder → RoomRule
saved_rule w = record {
  encoding = w.encoding;
  may_be_utf8 = can_be w.sought (saved_bytes w.held) Utf8;
  may_be_utf16 = can_be w.sought (saved_bytes w.held) Utf16Be || can_be w.sought (saved_bytes w.held) Utf16Le;
  ahead = ahead (saved_bytes w.held);
  pending = length (saved_pending w.pieces);
}

-- and of a decoder
abbrev pub room_rule_of : DecoderView → RoomRule
room_rule_of v = record {
  encoding = v.source [];
  may_be_utf8 = can_be v.opening.sought v.opening.held Utf8;
  may_be_utf16 = can_be v.opening.sought v.opening.held Utf16Be || can_be v.opening.sought v.opening.held Utf16Le;
  ahead = ahead v.opening.held;
  pending = v.opening.pending;
}
