-- What a walk over an input does: calls of its decoder, and reports of what they give.
use Rattle.std.specs.Prelude.{◌≡◌, ℕ, ◌+◌, ◌-◌, ◌<◌, ◌≤◌, nat_eq, Bool, true, false, Option, Some, None, List, [], ◌++◌, drop, length}
use Rattle.encoding_mem.specs.Piece.{Piece, sizes, text}
use Rattle.encoding_mem.specs.calls.Decoding.{DecoderState}
use Rattle.encoding_front.specs.calls.DecoderViews.{decoder_view}
use Rattle.recode_places.specs.Entries.{TellsTrueIn}
use Rattle.recode_places.specs.Findings.{Asked, Found, TellsFound, found_in}
use Rattle.recode_places.specs.Fits.{Fits, IsLeftOfLog}
use Rattle.recode_places.specs.Logs.{LogLeft}
use Rattle.recode_places.specs.Places.{IsPlaceAfter}
use Rattle.recode_places.specs.declared.entry.Entry.{Entry}
use Rattle.recode_places.specs.declared.place.Place.{Place}
use Rattle.recode_places.specs.declared.walk.Walk.{Walk}

-- How far a walk is: the place of the next character, how many bytes were read, the decoder, and whether that came to
-- its end.
pub record WalkState : Type 0 where
  pub place : Place
  pub read : ℕ
  pub decoder : DecoderState
  pub finished : Bool

-- how far a walk is
abbrev pub walk_state : Walk → WalkState
walk_state w = record { place = w.place; read = w.read; decoder = (decoder_view w.decoder).state; finished = (decoder_view w.decoder).finished }

-- a walk can go on: its decoder is open, and no more characters were passed than bytes
pub record CanWalk (w : WalkState) : Type 0 where
  pub open_ : w.finished ≡ false
  pub within : w.place.index + w.decoder.pending ≤ w.read

-- a walk has passed these pieces of its input
pub record HasPassed (w : WalkState) (ps : List Piece) : Type 0 where
  pub place : IsPlaceAfter w.place (text ps)
  pub read : w.read ≡ sizes ps + w.decoder.pending

-- A walk passed the next pieces of an input that goes on with these bytes, whatever follows them (nothing, if they are
-- the last), and handed over entries that are true of what was passed.
pub record WalksOn (told told' : Option (List Entry)) (v w : WalkState) (bytes left : List ℕ) (last : Bool) : Type 0 where
  pub passed : List Piece
  pub rest : (r : List ℕ) → (last ≡ true → r ≡ []) → v.decoder.pieces (bytes ++ r) ≡ passed ++ w.decoder.pieces (left ++ r)
  pub read : w.read + length left ≡ v.read + length bytes
  pub within : v.place.index + v.decoder.pending ≤ v.read → w.place.index + w.decoder.pending ≤ w.read
  pub passes : (ps : List Piece) → HasPassed v ps → HasPassed w (ps ++ passed)
  pub tells : (ps : List Piece) → HasPassed v ps → TellsTrueIn (ps ++ passed) told told'

-- one call of the decoder, and what it gives is reported
pub record WalksPart (told told' : Option (List Entry)) (v w : WalkState) (chunk : List ℕ) (last : Bool) (read : ℕ) (is_done : Bool) : Type 0 where
  pub within : read ≤ length chunk
  pub walks : WalksOn told told' v w chunk (drop read chunk) last
  pub more : is_done ≡ false → (w.finished ≡ false) × (length (w.decoder.pieces (drop read chunk)) < length (v.decoder.pieces chunk))
  pub done : is_done ≡ true → (drop read chunk ≡ []) × (last ≡ false → w.finished ≡ false) × (last ≡ true → w.decoder.pieces [] ≡ [])

-- whether what was read is the end of the input: no bytes
abbrev pub has_ended : List ℕ → Bool
has_ended chunk = nat_eq (length chunk) 0

-- all calls for what was read
pub record WalksChunk (told told' : Option (List Entry)) (v w : WalkState) (chunk : List ℕ) (last : Bool) : Type 0 where
  pub walks : WalksOn told told' v w chunk [] last
  pub more : last ≡ false → w.finished ≡ false
  pub end : last ≡ true → w.decoder.pieces [] ≡ []

-- A walk handed over entries that are true of the input, whatever follows these bytes (nothing, if they are the last): of some
-- of its first pieces.
pub record TellsPrefix (told told' : Option (List Entry)) (v : WalkState) (bytes : List ℕ) (last : Bool) : Type 0 where
  pub passed : List Piece
  pub rest : (r : List ℕ) → (last ≡ true → r ≡ []) → (more : List Piece) × (v.decoder.pieces (bytes ++ r) ≡ passed ++ more)
  pub tells : (ps : List Piece) → HasPassed v ps → TellsTrueIn (ps ++ passed) told told'

-- A walk over an input of which these bytes were left, as far as the reader says, and now those are: nothing follows them.
abbrev pub WalksInput : (told told' : Option (List Entry)) (v w : WalkState) (left left' : Option (List ℕ)) → Type 0
WalksInput told told' v w None left' = Unit {0}
WalksInput told told' v w (Some x) None = ⊥
WalksInput told told' v w (Some x) (Some y) = WalksOn told told' v w x y true

-- what is left of a log fits what a walk has still to pass: these bytes, and what its decoder holds
abbrev pub FitsAhead : WalkState → LogLeft → List ℕ → Type 0
FitsAhead w left x = IsLeftOfLog (Fits w.place.index (w.read - w.decoder.pending) (w.decoder.pieces x)) left

-- what a walk has still to find: in these bytes, and in what its decoder holds
abbrev pub found_ahead : Asked → WalkState → List ℕ → List Found
found_ahead a w x = found_in a w.place.index (w.read - w.decoder.pending) (w.decoder.pieces x)

-- if no log is asked, a walk that had these bytes to pass, and now has those left, reported what it found in between
abbrev pub TellsPassed : Asked → (v w : WalkState) (bytes left : List ℕ) (told told' : Option (List Entry)) → Type 0
TellsPassed a v w bytes left told told' = TellsFound a (found_ahead a v bytes) (found_ahead a w left) told told'
