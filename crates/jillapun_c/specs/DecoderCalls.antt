-- What a call of a decoder's handle does.
use Rattle.std.specs.Prelude.{◌≡◌, ◌≢◌, ℕ, Bool, true, false, List, drop, encode_utf8_all, length, Option, MatchOption, None, unwrap_or}
use Rattle.encoding_mem.specs.declared.codec.decoder_result.DecoderResult.{DecoderResult}
use Rattle.encoding_mem.specs.declared.codec.decoder_result.DecoderResult.TheVariants as raw_
use Rattle.encoding_mem.specs.declared.codec.room.OutputUnit.{OutputUnit}
use Rattle.encoding_mem.specs.calls.Writing.{Adds, encode_utf16_all}
use Rattle.encoding_tables.specs.IndexLists.{IndexLists}
use Rattle.encoding_front.specs.calls.DecoderCall.{DecoderCall, IfRoomAsked, RoomLeft, TextCall}
use Rattle.encoding_front.specs.calls.SavedDecoders.{ReadsAlike}
use Rattle.encoding_front.specs.calls.Stream.{DecoderView, IsMadeFrom, IsNewDecoder, TellsLatin1Prefix, room_asked}
use Rattle.encoding_front.specs.declared.coder_result.CoderResult.{CoderResult}
use Rattle.encoding_front.specs.declared.coder_result.CoderResult.TheVariants as text_
use Rattle.encoding_front.specs.declared.encoding.Encoding.{Encoding}
use Rattle.encoding_front.specs.declared.mark.Mark.{Mark}
use Rattle.jillapun_c.specs.EncodingNumbers.{encoding_at, mark_at}
use Rattle.jillapun_c.specs.HeldDecoders.{HoldsDecoder, saved_in}
use Rattle.jillapun_c.specs.HeldTables.{held_lists}
use Rattle.jillapun_c.specs.Openings.{IfReady}
use Rattle.jillapun_c.specs.Room.{TextIsPut}
use Rattle.jillapun_c.specs.declared.decoder.handle.DecoderHandle.{DecoderHandle}
use Rattle.jillapun_c.specs.declared.progress.Progress.{Progress}
use Rattle.jillapun_c.specs.declared.status.TheConstants.{CLOSED, FINISHED, INPUT_EMPTY, MALFORMED, OK, OUTPUT_FULL, REFUSED, UNKNOWN}

-- the handle holds a decoder that callers know by this view
abbrev pub HoldsOne : DecoderHandle → DecoderView → Type 0
HoldsOne h v = HoldsDecoder h.tables.tables h.words v

-- the handle holds a decoder of a new stream, over these tables, or with no index if there are none
pub record HoldsNewDecoder (tables : Option IndexLists) (e : Encoding) (mark : Mark) (h : DecoderHandle) : Type 0 where
  pub view : DecoderView
  pub holds : HoldsOne h view
  pub over : h.tables.tables ≡ tables
  pub is_new : IsNewDecoder view (held_lists tables) mark e

-- A decoder is made, if there is an encoding with that number, if the other number says what becomes of marks, and if each
-- index that the encoding needs is there. The first of these that fails decides the status.
abbrev pub MakesDecoder : (tables : Option IndexLists) (encoding mark : ℕ) (new : DecoderHandle) (status : ℕ) → Type 0
MakesDecoder tables encoding mark new status =
    MatchOption (encoding_at encoding) (status ≡ UNKNOWN) (λ e. MatchOption (mark_at mark) (status ≡ UNKNOWN)
    (λ m. IfReady (held_lists tables) e ((status ≡ OK) × HoldsNewDecoder tables e m new) status))

-- the number of an outcome
abbrev pub text_outcome : CoderResult → ℕ
text_outcome text_.InputEmpty = INPUT_EMPTY
text_outcome text_.OutputFull = OUTPUT_FULL

-- an outcome as it is reported: its number, and of a malformed sequence its length and how many bytes were read after it
abbrev pub IsOutcome : DecoderResult → (number length after : ℕ) → Type 0
IsOutcome raw_.InputEmpty number length after = (number ≡ INPUT_EMPTY) × (length ≡ 0) × (after ≡ 0)
IsOutcome raw_.OutputFull number length after = (number ≡ OUTPUT_FULL) × (length ≡ 0) × (after ≡ 0)
IsOutcome (raw_.Malformed n k) number length after = (number ≡ MALFORMED) × (length ≡ n) × (after ≡ k)

-- What a call did that writes U+FFFD for each malformed sequence, and why it ended. Writes says which text stands in the
-- room, size how long that is, left what is left of it.
pub record Decodes (unit : OutputUnit) (before : DecoderView) (after : DecoderHandle) (src : List ℕ) (last : Bool) (Writes : List ℕ → Type 0) (size : ℕ) (left : RoomLeft) (progress : Progress) : Type 0 where
  pub view : DecoderView
  pub holds : HoldsOne after view
  pub outcome : CoderResult
  pub told : progress.outcome ≡ text_outcome outcome
  pub no_length : (progress.malformed_length ≡ 0) × (progress.malformed_after ≡ 0)
  pub call : TextCall before view src last progress.read Writes left outcome progress.had_errors
  pub enough : IfRoomAsked before unit (length src) size (outcome ≢ text_.OutputFull)

-- The same of a call that ends at each malformed sequence.
pub record DecodesUpToFault (unit : OutputUnit) (before : DecoderView) (after : DecoderHandle) (src : List ℕ) (last : Bool) (Writes : List ℕ → Type 0) (size : ℕ) (left : RoomLeft) (progress : Progress) : Type 0 where
  pub view : DecoderView
  pub holds : HoldsOne after view
  pub outcome : DecoderResult
  pub told : IsOutcome outcome progress.outcome progress.malformed_length progress.malformed_after
  pub none_replaced : progress.had_errors ≡ false
  pub call : DecoderCall before view src last progress.read Writes left outcome
  pub enough : IfRoomAsked before unit (length src) size (outcome ≢ raw_.OutputFull)

-- What the status of a call on a decoder says: the handle holds none, its stream has ended, or all was done and this
-- holds of each view by which a caller knows the decoder.
pub record AnswersDecoder (h : DecoderHandle) (status : ℕ) (Then : DecoderView → Type 0) : Type 0 where
  pub closed : saved_in h.words ≡ None → status ≡ CLOSED
  pub finished : (v : DecoderView) → HoldsOne h v → v.finished ≡ true → status ≡ FINISHED
  pub done : (v : DecoderView) → HoldsOne h v → v.finished ≡ false → (status ≡ OK) × Then v

-- a text stands at the start of a room as UTF-8
abbrev pub StandsAsUtf8 : (old text new : List ℕ) (written : ℕ) → Type 0
StandsAsUtf8 old text new written = Adds old 0 (encode_utf8_all text) new written

-- a text stands at the start of a room as UTF-16
abbrev pub StandsAsUtf16 : (old text new : List ℕ) (written : ℕ) → Type 0
StandsAsUtf16 old text new written = Adds old 0 (encode_utf16_all text) new written

-- a text stands as UTF-8 at the start of another one, which stays a text
abbrev pub StandsOverText : (old text new : List ℕ) (written : ℕ) → Type 0
StandsOverText old text new written = TextIsPut old (encode_utf8_all text) new written

-- What a call of a decoder's handle does that writes U+FFFD, by how its text stands in the room, and by what counts the
-- room that is left.
abbrev pub DecodesInto : OutputUnit → (Stands : (old text new : List ℕ) → ℕ → Type 0) (free_in : ℕ → RoomLeft) (before after : DecoderHandle) (src : List ℕ) (last : Bool) (dst dst' : List ℕ) → Progress → (status : ℕ) → Type 0
DecodesInto unit Stands free_in before after src last dst dst' progress status = AnswersDecoder before status
    (λ v. Decodes unit v after src last (λ text. Stands dst text dst' progress.written) (length dst) (free_in (length (drop progress.written dst'))) progress)

-- The same of a call that ends at each malformed sequence.
abbrev pub DecodesIntoUpToFault : OutputUnit → (Stands : (old text new : List ℕ) → ℕ → Type 0) (free_in : ℕ → RoomLeft) (before after : DecoderHandle) (src : List ℕ) (last : Bool) (dst dst' : List ℕ) → Progress → (status : ℕ) → Type 0
DecodesIntoUpToFault unit Stands free_in before after src last dst dst' progress status = AnswersDecoder before status
    (λ v. DecodesUpToFault unit v after src last (λ text. Stands dst text dst' progress.written) (length dst) (free_in (length (drop progress.written dst'))) progress)

-- the room that is asked for the text of so many bytes is reported; SIZE_MAX if it is more than a length can say
abbrev pub AsksRoom : OutputUnit → DecoderHandle → (size length status : ℕ) → Type 0
AsksRoom asked_in h size length status = AnswersDecoder h status (λ v. length ≡ unwrap_or (room_asked v.opening asked_in size) REFUSED)

-- how many bytes, if they come next, are their own characters in Latin1, if that is known; else SIZE_MAX
pub record TellsIfKnown (v : DecoderView) (bytes : List ℕ) (length : ℕ) : Type 0 where
  pub known : Option ℕ
  pub is : TellsLatin1Prefix v bytes known
  pub told : length ≡ unwrap_or known REFUSED

-- A decoder goes on in place of the one that a handle holds: what calls do is the same, it was made from the same indexes,
-- and its stream has not ended.
pub record GoesOnFrom (h : DecoderHandle) (u : DecoderView) : Type 0 where
  pub held : saved_in h.words ≢ None
  pub alike : (v : DecoderView) → HoldsOne h v → ReadsAlike v u
  pub made : IsMadeFrom (held_lists h.tables.tables) u
  pub open_ : u.finished ≡ false

-- none can go on, and the status says why
pub record TellsWhyNot (h : DecoderHandle) (status : ℕ) : Type 0 where
  pub closed : saved_in h.words ≡ None → status ≡ CLOSED
  pub finished : (v : DecoderView) → HoldsOne h v → (v.finished ≡ true) × (status ≡ FINISHED)
  pub failed : status ≢ OK
