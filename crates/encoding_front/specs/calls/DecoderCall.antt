-- What a call of a decoder of a stream does.
use Rattle.std.specs.Prelude.{◌≡◌, ℕ, ◌≤◌, Bool, true, false, IsTrue, Some, List, [], ◌++◌, drop, encode_utf8_all}
use Rattle.encoding_mem.specs.calls.DecodedLength.{replacement_len, two_in}
use Rattle.encoding_mem.specs.calls.Decoding.{StateLaw, EndsWith}
use Rattle.encoding_mem.specs.calls.TextDestination.{Overwrites}
use Rattle.encoding_mem.specs.calls.Writing.{Adds}
use Rattle.encoding_mem.specs.declared.codec.decoder_result.DecoderResult.{DecoderResult}
use Rattle.encoding_mem.specs.declared.codec.room.OutputUnit.{OutputUnit}
use Rattle.encoding_tables.specs.IndexLists.{IndexLists}
use Rattle.encoding_front.specs.calls.DecodedText.{TakesText, raw_result}
use Rattle.encoding_front.specs.calls.Stream.{DecoderView, IsMadeFrom, finishes, room_asked}
use Rattle.encoding_front.specs.calls.Seeking.{is_sought}
use Rattle.encoding_front.specs.declared.coder_result.CoderResult.{CoderResult}
use Rattle.encoding_front.specs.declared.seeking.BomSet.{BomSet}

-- The room that is left after what a call wrote: whether it is counted in units of UTF-16, not in bytes of UTF-8, and
-- how many of them are free.
pub record RoomLeft : Type 0 where
  pub in_units : Bool
  pub free : ℕ

-- so many bytes of UTF-8 are left
abbrev pub free_bytes : (free : ℕ) → RoomLeft
free_bytes free = record { in_units = false; free = free }

-- so many units of UTF-16 are left
abbrev pub free_units : (free : ℕ) → RoomLeft
free_units free = record { in_units = true; free = free }

-- what is left in any destination, by whether its units are those of UTF-16
abbrev pub free_in_sink : (in_units : Bool) (free : ℕ) → RoomLeft
free_in_sink in_units free = record { in_units = in_units; free = free }

-- Marks are sought after a call only if it left nothing unread and more may come: those that were sought before it.
abbrev pub SeeksOn : (before after : BomSet) → (last : Bool) → (unread : List ℕ) → Type 0
SeeksOn before after last unread = IsTrue (is_sought after) → (after ≡ before) × (last ≡ false) × (unread ≡ [])

-- Up to a malformed sequence: which pieces it took, whose scalars Writes says were written, and why it ended. How much
-- has to be free for any character, and what U+FFFD takes, follows from what `left` counts (`two_in`,
-- `replacement_len`). The encoding that the input turns out to be in does not depend on how it is cut. It is still of
-- the indexes that it was made from.
pub record DecoderCall (before after : DecoderView) (src : List ℕ) (last : Bool) (read : ℕ) (Writes : List ℕ → Type 0) (left : RoomLeft) (outcome : DecoderResult) : Type 0 where
  pub law : StateLaw before.state after.state src last read Writes outcome
  pub ends : EndsWith after.state (drop read src) last left.free (two_in left.in_units) (replacement_len left.in_units) outcome
  pub source : (r : List ℕ) → (IsTrue last → r ≡ []) → before.source (src ++ r) ≡ after.source (drop read src ++ r)
  pub marks : SeeksOn before.opening.sought after.opening.sought last (drop read src)
  pub finished : after.finished ≡ finishes last outcome
  pub made : (t : IndexLists) → IsMadeFrom t before → IsMadeFrom t after

-- What a call that writes U+FFFD for each malformed sequence does, and why it ended.
pub record TextCall (before after : DecoderView) (src : List ℕ) (last : Bool) (read : ℕ) (Writes : List ℕ → Type 0) (left : RoomLeft) (outcome : CoderResult) (had_errors : Bool) : Type 0 where
  pub law : TakesText before.state.pieces after.state.pieces src last before.state.pending after.state.pending read Writes had_errors
  pub ends : EndsWith after.state (drop read src) last left.free (two_in left.in_units) (replacement_len left.in_units) (raw_result outcome)
  pub source : (r : List ℕ) → (IsTrue last → r ≡ []) → before.source (src ++ r) ≡ after.source (drop read src ++ r)
  pub marks : SeeksOn before.opening.sought after.opening.sought last (drop read src)
  pub finished : after.finished ≡ finishes last (raw_result outcome)
  pub made : (t : IndexLists) → IsMadeFrom t before → IsMadeFrom t after

-- a fact, if as much room is free as is asked for the text of so many bytes
abbrev pub IfRoomAsked : DecoderView → OutputUnit → (size free : ℕ) → Type 0 → Type 0
IfRoomAsked v k size free P = (n : ℕ) → room_asked v.opening k size ≡ Some n → n ≤ free → P

-- Where a call writes its text: a buffer of bytes or units, a buffer that is text before and after, a string.
pub data Destination : Type 0 where
  buffer : (encode : List ℕ → List ℕ) (old new : List ℕ) (written : ℕ) → Destination
  text_buffer : (old new : List ℕ) (written : ℕ) → Destination
  grown_string : (old new : List ℕ) → Destination

-- the text was written there
abbrev pub HasText : Destination → List ℕ → Type 0
HasText (buffer encode old new written) text = Adds old 0 (encode text) new written
HasText (text_buffer old new written) text = Overwrites old (encode_utf8_all text) new written
HasText (grown_string old new) text = new ≡ old ++ encode_utf8_all text
