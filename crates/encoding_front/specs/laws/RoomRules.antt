-- What the length queries of a decoder return is what their rule says.
use Rattle.std.specs.Prelude.{◌≡◌, ℕ, ◌+◌, ◌||◌}
use Rattle.std.proofs.Common.{ap, sym, ◌∙◌}
use Rattle.encoding_mem.specs.calls.Resuming.{saved_bytes}
use Rattle.encoding_mem.specs.calls.DecodedLength.{queried, decoded_length_utf8, decoded_length_utf16}
use Rattle.encoding_mem.specs.declared.codec.room.OutputUnit.{OutputUnit}
use Rattle.encoding_front.specs.calls.RoomRules.{room_by, room_rule_of, saved_rule}
use Rattle.encoding_front.specs.calls.SavedDecoders.{Saves}
use Rattle.encoding_front.specs.calls.Seeking.{can_be}
use Rattle.encoding_front.specs.calls.Stream.{DecoderView, IsOpenedBy, Opening, ahead, greater_if, room_asked}
use Rattle.encoding_front.specs.declared.decoder.room_rule.RoomRule.{RoomRule}
use Rattle.encoding_front.specs.declared.decoder.saved_decoder.SavedDecoder.{SavedDecoder}
use Rattle.encoding_front.specs.declared.encoding.Encoding.{Encoding}
use Rattle.encoding_front.specs.declared.seeking.ByteOrderMark.TheVariants.{Utf8, Utf16Be, Utf16Le}

-- the room that is asked is the room by the rule
pub asked_by_rule : (v : DecoderView) → IsOpenedBy v → (k : OutputUnit) (n : ℕ) → room_asked v.opening k n ≡ room_by (room_rule_of v) k n
asked_by_rule v is k n = let r = room_rule_of v in
    ap (λ room. greater_if r.may_be_utf16 (queried decoded_length_utf16 k (n + r.ahead))
    (greater_if r.may_be_utf8 (queried decoded_length_utf8 k (n + r.ahead)) (queried room k (r.pending + (n + r.ahead))))) is.room

-- and so are those of what was saved
abbrev rule_with : Encoding → Opening → RoomRule
rule_with e o = record { encoding = e; may_be_utf8 = can_be o.sought o.held Utf8; may_be_utf16 = can_be o.sought o.held Utf16Be || can_be o.sought o.held Utf16Le; ahead = ahead o.held; pending = o.pending }

pub rule_saved : (w : SavedDecoder) (v : DecoderView) → Saves w v → saved_rule w ≡ room_rule_of v
rule_saved w v h =
    ap (λ (n : ℕ). rule_with w.encoding (record { sought = w.sought; held = saved_bytes w.held; room = v.own.room; pending = n })) (sym h.sound.pending)
    ∙ ap (rule_with w.encoding) (sym h.opening)
    ∙ ap (λ (e : Encoding). rule_with e v.opening) (sym h.in_force)
