-- What was saved of a decoder, and a decoder that goes on from it.
use Rattle.std.specs.Prelude.{◌≡◌, ℕ, ◌+◌, ◌≤◌, ◌<◌, IsTrue, false, List, [], ◌++◌, length}
use Rattle.encoding_mem.specs.calls.Resuming.{HoldsFew, Reading, reading_of, saved_bytes, saved_pending}
use Rattle.encoding_tables.specs.IndexLists.{IndexLists}
use Rattle.encoding_front.specs.Encodings.{IsReady}
use Rattle.encoding_front.specs.calls.CodecBounds.{decoded_length_of}
use Rattle.encoding_front.specs.calls.Resumed.{resumed_in}
use Rattle.encoding_front.specs.calls.Seeking.{find_mark, is_sought, room_widest, sought_by, sought_encoding, sought_needs, sought_pieces}
use Rattle.encoding_front.specs.calls.Stream.{DecoderView, IsNewDecoder}
use Rattle.encoding_front.specs.declared.decoder.saved_decoder.SavedDecoder.{SavedDecoder}
use Rattle.encoding_front.specs.declared.encoding.Encoding.{Encoding}
use Rattle.encoding_front.specs.declared.mark.Mark.{Mark}
use Rattle.encoding_front.specs.declared.seeking.BomMatch.{BomMatch}
use Rattle.encoding_front.specs.declared.seeking.BomSet.{BomSet}

-- how a decoder reads that looks for some marks, and that holds some bytes before those to come, by
-- how the decoder of the encoding in force reads
abbrev pub sought_reading : BomSet → (own : Reading) → (held : List ℕ) → Reading
sought_reading s own held = record {
  pieces = λ x. sought_pieces s own.pieces (held ++ x);
  pending = own.pending + length held;
  needs = sought_needs s own.needs held;
  room = room_widest;
}

-- What was saved is sound, if the decoder of the encoding in force reads so: the pending bytes are
-- those that were saved, and few; none are pending while a mark is sought, and what is held then is a
-- prefix of one.
pub record IsSound (own : Reading) (w : SavedDecoder) : Type 0 where
  pub pending : own.pending ≡ length (saved_pending w.pieces)
  pub few : HoldsFew own
  pub room : own.room ≡ decoded_length_of w.encoding
  pub short : 0 < length (saved_bytes w.held) → own.pending + length (saved_bytes w.held) ≤ 2
  pub fresh : IsTrue (is_sought w.sought) → own.pending ≡ 0
  pub prefix : IsTrue (is_sought w.sought) → find_mark w.sought (saved_bytes w.held) ≡ BomMatch.Prefix

-- What was saved is that of a decoder: the encoding in force, the marks that are sought with the
-- bytes that are held, the mode and the pending bytes, and whether it is finished.
pub record Saves (w : SavedDecoder) (v : DecoderView) : Type 0 where
  pub own : v.resumed w.pieces.mode (saved_pending w.pieces) ≡ reading_of v.own
  pub sound : IsSound (reading_of v.own) w
  pub state : reading_of v.state ≡ sought_reading w.sought (reading_of v.own) (saved_bytes w.held)
  pub opening : v.opening ≡ record { sought = w.sought; held = saved_bytes w.held; room = v.own.room; pending = v.own.pending }
  pub in_force : v.source [] ≡ w.encoding
  pub source : (x : List ℕ) → v.source x ≡ sought_encoding w.sought w.encoding (saved_bytes w.held ++ x)
  pub finished : v.finished ≡ w.is_finished

-- Nothing was read when this was saved: the marks are sought that would be taken, and no byte is held or pending.
pub record HasReadNothing (mark : Mark) (e : Encoding) (w : SavedDecoder) : Type 0 where
  pub in_force : w.encoding ≡ e
  pub sought : w.sought ≡ sought_by mark e
  pub held : saved_bytes w.held ≡ []
  pub open_ : w.is_finished ≡ false
  pub mode : w.pieces.mode ≡ 0
  pub pending : saved_pending w.pieces ≡ []

-- what was saved is that of a decoder of a new stream
pub record IsSavedOfNew (t : IndexLists) (mark : Mark) (e : Encoding) (w : SavedDecoder) : Type 0 where
  pub view : DecoderView
  pub saves : Saves w view
  pub is_new : IsNewDecoder view t mark e

-- What was saved can go on over these indexes: those of its encoding are there, and what it reads by
-- them is sound.
pub record CanBeResumed (t : IndexLists) (w : SavedDecoder) : Type 0 where
  pub ready : IsReady t w.encoding
  pub sound : IsSound (resumed_in t w.encoding w.pieces.mode (saved_pending w.pieces)) w

-- two decoders read the bytes to come alike: so what calls do from now on is the same
pub record ReadsAlike (v u : DecoderView) : Type 0 where
  pub state : reading_of v.state ≡ reading_of u.state
  pub own : reading_of v.own ≡ reading_of u.own
  pub source : (x : List ℕ) → v.source x ≡ u.source x
  pub opening : v.opening ≡ u.opening
  pub resumed : v.resumed ≡ u.resumed
  pub finished : v.finished ≡ u.finished
