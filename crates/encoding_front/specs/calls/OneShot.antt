-- A whole input at once: its text, the room that is asked for it, and why it is refused.
use Rattle.std.specs.Prelude.{◌≡◌, ◌≢◌, ◌↔◌, ℕ, ◌<◌, Bool, IsTrue, Option, None, Some, Result, Ok, Err, List, [], encode_utf8_all}
use Rattle.encoding_mem.specs.Piece.{malformed_count}
use Rattle.encoding_mem.specs.declared.codec.room.OutputUnit.{OutputUnit}
use Rattle.encoding_tables.specs.IndexLists.{IndexLists}
use Rattle.encoding_front.specs.calls.CodecBounds.{decoded_length_of}
use Rattle.encoding_front.specs.Marks.{marked_pieces, marked_text}
use Rattle.encoding_front.specs.calls.Seeking.{sought_by}
use Rattle.encoding_front.specs.calls.Stream.{room_asked}
use Rattle.encoding_front.specs.declared.encoding.Encoding.{Encoding}
use Rattle.encoding_front.specs.declared.mark.Mark.{Mark}
use Rattle.encoding_front.specs.declared.one_shot_fault.OneShotFault.{OneShotFault}
use Rattle.encoding_front.specs.declared.one_shot_fault.OneShotFault.TheVariants.{Overflow, Memory}

-- the text of an input in UTF-8, and whether there is a malformed sequence in it
pub record IsDecoded (t : IndexLists) (mark : Mark) (e : Encoding) (x text : List ℕ) (had_errors : Bool) : Type 0 where
  pub bytes : text ≡ encode_utf8_all (marked_text t mark e x)
  pub malformed_ : IsTrue had_errors ↔ (0 < malformed_count (marked_pieces t mark e x))

-- what the length query of a new decoder returns for n bytes
abbrev pub room_at_start : Mark → Encoding → OutputUnit → ℕ → Option ℕ
room_at_start mark e k n = room_asked (record { sought = sought_by mark e; held = []; room = decoded_length_of e; pending = 0 }) k n

-- the room passes a usize; or there is no memory for it, which is asked for unless it is 0
abbrev pub IsRefused : Option ℕ → OneShotFault → Type 0
IsRefused room Overflow = room ≡ None
IsRefused room Memory = (n : ℕ) × (room ≡ Some n) × (0 < n)

-- a call fails for lack of this room alone, and it doesn't end well if that passes a usize
abbrev pub FailsFor : {T : Type 0} → Option ℕ → Result T OneShotFault → Type 0
FailsFor room (Ok value) = room ≢ None
FailsFor room (Err fault) = IsRefused room fault
