-- Worked rows of `specs/calls/Stream.antt` and of `specs/calls/RoomRules.antt`.
use Rattle.std.specs.Prelude.{◌≡◌, ℕ, true, false, Option, None, Some, List, [], ◌∷◌, refl}
use Rattle.encoding_mem.specs.calls.DecodedLength.{decoded_length_utf8, decoded_length_single_byte, decoded_length_replacement}
use Rattle.encoding_mem.specs.declared.codec.room.OutputUnit.TheVariants.{Units, Bytes, Replaced}
use Rattle.encoding_front.specs.calls.Seeking.{nothing_sought, sought_by}
use Rattle.encoding_front.specs.declared.encoding.Encoding.{Encoding}
use Rattle.encoding_front.specs.declared.mark.Mark.TheVariants.{Sniff}
use Rattle.encoding_front.specs.calls.RoomRules.{room_by}
use Rattle.encoding_front.specs.calls.Stream.{Opening, room_asked}

sniffing_windows_1252 : List ℕ → Opening
sniffing_windows_1252 held = record { sought = sought_by Sniff Encoding.Windows1252; held = held; room = decoded_length_single_byte; pending = 0 }

at_the_start : room_asked (sniffing_windows_1252 []) Bytes 4 ≡ Some 12
unfolding sniffing_windows_1252
at_the_start = refl

at_the_start_too_many : room_asked (sniffing_windows_1252 []) Replaced 0xFFFFFFFFFFFFFFFF ≡ None
unfolding sniffing_windows_1252
at_the_start_too_many = refl

held_to_units : room_asked (sniffing_windows_1252 (0xEF ∷ [])) Units 1 ≡ Some 4
unfolding sniffing_windows_1252
held_to_units = refl

held_to_bytes : room_asked (sniffing_windows_1252 (0xEF ∷ [])) Bytes 1 ≡ Some 9
unfolding sniffing_windows_1252
held_to_bytes = refl

held_with_replacement : room_asked (sniffing_windows_1252 (0xEF ∷ [])) Replaced 1 ≡ Some 12
unfolding sniffing_windows_1252
held_with_replacement = refl

-- a BB that is still to be handed on, if nothing is looked for any more
handed_on : room_asked (record { sought = nothing_sought; held = 0xBB ∷ []; room = decoded_length_single_byte; pending = 0 }) Units 1 ≡ Some 3
handed_on = refl

of_replacement : room_asked (record { sought = nothing_sought; held = []; room = decoded_length_replacement; pending = 0 }) Bytes 0xFFFFFFFFFFFFFFFF ≡ Some 3
of_replacement = refl

-- "replacement" has so little room of its own that the others show: at the start UTF-8's, of n bytes
sniffing_replacement : List ℕ → Opening
sniffing_replacement held = record { sought = sought_by Sniff Encoding.Replacement; held = held; room = decoded_length_replacement; pending = 0 }

rooms_with : List ℕ → ℕ → List (Option ℕ)
rooms_with held n = room_asked (sniffing_replacement held) Units n ∷ room_asked (sniffing_replacement held) Bytes n ∷ room_asked (sniffing_replacement held) Replaced n ∷ []

nothing_held : rooms_with [] 4 ≡ Some 5 ∷ Some 7 ∷ Some 15 ∷ []
unfolding rooms_with sniffing_replacement
nothing_held = refl

-- EF, or EF and BB, count as two bytes before the next, of UTF-8
utf_8_held : (rooms_with (0xEF ∷ []) 1 ≡ Some 4 ∷ Some 6 ∷ Some 12 ∷ []) × (rooms_with (0xEF ∷ 0xBB ∷ []) 1 ≡ Some 4 ∷ Some 6 ∷ Some 12 ∷ [])
unfolding rooms_with sniffing_replacement
utf_8_held = (refl, refl)

-- FE or FF, of UTF-16
utf_16_held : (rooms_with (0xFE ∷ []) 1 ≡ Some 3 ∷ Some 7 ∷ Some 7 ∷ []) × (rooms_with (0xFF ∷ []) 1 ≡ Some 3 ∷ Some 7 ∷ Some 7 ∷ [])
unfolding rooms_with sniffing_replacement
utf_16_held = (refl, refl)

-- UTF-16 asks for more than one byte a character does, at the start and with FE held
utf_16_and_own : room_asked (sniffing_windows_1252 (0xFE ∷ [])) Units 1 ≡ Some 3
unfolding sniffing_windows_1252
utf_16_and_own = refl

-- pending bytes count with those that come
pending_and_new : room_asked (record { sought = nothing_sought; held = []; room = decoded_length_utf8; pending = 3 }) Replaced 4 ≡ Some 24
pending_and_new = refl

-- room by the values that length queries depend on: at the start, and with a byte pending that may begin two bytes
by_values_at_the_start : room_by (record { encoding = Encoding.Windows1252; may_be_utf8 = true; may_be_utf16 = true; ahead = 0; pending = 0 }) Bytes 4 ≡ Some 12
by_values_at_the_start = refl

by_values_with_a_pending_byte : room_by (record { encoding = Encoding.ShiftJis; may_be_utf8 = false; may_be_utf16 = false; ahead = 0; pending = 1 }) Units 3 ≡ Some 5
by_values_with_a_pending_byte = refl
