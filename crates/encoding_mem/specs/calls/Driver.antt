-- What the driver of a rule does, when its state is known by the rule's pieces and by what is pending.
use Rattle.std.specs.Prelude.{◌≡◌, ℕ, ◌+◌, ◌-◌, ◌≤◌, ◌<◌, ◌⊎◌, Bool, false, IsTrue, Option, Some, None, List, [], ◌++◌, length, drop}
use Rattle.std.proofs.Common.{◌∙◌, length-append}
use Rattle.encoding_mem.specs.Piece.{Piece, malformed, head_piece, piece_len, piece_scalars, piece_text, sizes, IsWellFormedPiece, AreWellFormed, ArePieces}
use Rattle.encoding_mem.specs.calls.Decoding.{DecoderState, IsKnown, Reports, Room, Suffices, Takes}
use Rattle.encoding_mem.specs.calls.DecoderRule.{IsFirstPiece, IsSoon}
use Rattle.encoding_mem.specs.calls.DecodedLength.{is_units, counts_past_malformed, replacement_len, two_in, left_after, decoded_length}
use Rattle.encoding_mem.specs.declared.codec.room.OutputUnit.{OutputUnit}
use Rattle.encoding_mem.specs.declared.codec.room.DecodedLength.{DecodedLength}
use Rattle.encoding_mem.specs.declared.codec.decoder_result.DecoderResult.{DecoderResult}
use Rattle.encoding_mem.specs.declared.codec.decoder_result.DecoderResult.TheVariants.{InputEmpty, OutputFull, Malformed}
use Rattle.encoding_mem.specs.declared.codec.driver.Step.{Step}
use Rattle.encoding_mem.specs.declared.codec.driver.Step.TheVariants.{Wait, Full, Took, Broke}
use Rattle.encoding_mem.specs.Decided.{IsUndecided}

-- whatever follows some bytes, the first piece ends at most three bytes before their end
abbrev pub IsNear : (List ℕ → List Piece) → List ℕ → Type 0
IsNear pieces x = (r : List ℕ) (p : Piece) → head_piece (pieces (x ++ r)) ≡ Some p → length x ≤ piece_len p + 3

-- A driver's step did what it says: it waits, the first piece being undecided; or lacks room for a
-- piece with text; or took and wrote a well-formed piece; or took a malformed one.
abbrev pub IsStep : {C W : Type 0} (pieces : C → List ℕ → List Piece) (writes : W → List ℕ → W → Type 0) (free : W → ℕ)
    (room replacement : ℕ) (before after : C) (bytes : List ℕ) (last : Bool) (old new : W) → Step → Type 0
IsStep pieces writes free room replacement before after bytes last old new Wait =
    (last ≡ false) × (length bytes < 6) × IsUndecided (pieces before) bytes × IsSoon (pieces before) bytes × (after ≡ before) × (new ≡ old)
IsStep pieces writes free room replacement before after bytes last old new Full =
    (free new < room) × ((p : Piece) × (rest : List ℕ → List Piece) × IsFirstPiece (pieces before) rest bytes last p × (0 < length (piece_text p))) × (after ≡ before) × (new ≡ old)
IsStep pieces writes free room replacement before after bytes last old new (Took n) =
    (p : Piece) × IsWellFormedPiece p × (piece_len p ≡ n) × IsFirstPiece (pieces before) (pieces after) bytes last p × writes old (piece_scalars p) new
IsStep pieces writes free room replacement before after bytes last old new (Broke n) =
    IsFirstPiece (pieces before) (pieces after) bytes last (malformed n) × (n ≤ 4) × (new ≡ old) × (replacement ≤ free new)

-- A driver's step with room enough for m bytes, those looked at or more (no more, if they are the
-- last), does not lack room, and leaves enough for the rest (or for what `left_after` says).
abbrev pub IsRoomyStep : (before after : OutputUnit → ℕ → ℕ) (t last : Bool) (window old new : ℕ) → Step → Type 0
IsRoomyStep before after t last window old new Wait = Unit {0}
IsRoomyStep before after t last window old new Full = (k : OutputUnit) (m : ℕ) → is_units k ≡ t → window ≤ m → (IsTrue last → m ≡ window) → before k m ≤ old → ⊥
IsRoomyStep before after t last window old new (Took n) = (k : OutputUnit) (m : ℕ) → is_units k ≡ t → window ≤ m → (IsTrue last → m ≡ window) → before k m ≤ old → after k (m - n) ≤ new
IsRoomyStep before after t last window old new (Broke n) = (k : OutputUnit) (m : ℕ) → is_units k ≡ t → window ≤ m → (IsTrue last → m ≡ window) → before k m ≤ old → left_after (counts_past_malformed k) (replacement_len t) (after k (m - n)) ≤ new

-- A driver before a call or after it: the pieces that its rule makes of bytes, the most room that
-- they need, and the bytes that are pending.
pub record DriverState : Type 0 where
  pub pieces : List ℕ → List Piece
  pub needs : OutputUnit → ℕ → ℕ
  pub pending : List ℕ

-- a driver, by the pieces and needs of its rule in a given state and by what is pending
abbrev pub driver_state : {C : Type 0} (pieces : C → List ℕ → List Piece) (needs : C → OutputUnit → ℕ → ℕ) (codec : C) (pending : List ℕ) → DriverState
driver_state pieces needs codec pending = record { pieces = pieces codec; needs = needs codec; pending = pending }

-- the pieces of what is pending and of the bytes that follow
abbrev pub to_come : DriverState → List ℕ → List Piece
to_come state x = state.pieces (state.pending ++ x)

-- the most room that what is pending and so many bytes that follow need
abbrev pub needs_to_come : DriverState → OutputUnit → ℕ → ℕ
needs_to_come state k n = state.needs k (length state.pending + n)

-- Why a driver's call ended: all is read, and nothing is pending or it is undecided; or less than is
-- room for any character is free, and the next piece has text; or at a malformed sequence, with room
-- for U+FFFD.
abbrev pub DriverEndsWith : (after : DriverState) (unread : List ℕ) (last : Bool) (room : Room) → DecoderResult → Type 0
DriverEndsWith after unread last room InputEmpty =
    (unread ≡ []) × ((after.pending ≡ []) ⊎ ((last ≡ false) × (length after.pending < 6) × IsUndecided after.pieces after.pending × IsSoon after.pieces after.pending))
DriverEndsWith after unread last room OutputFull = (room.after < two_in room.in_units) × IsKnown (to_come after) unread last
DriverEndsWith after unread last room (Malformed a b) = replacement_len room.in_units ≤ room.after

-- nothing is pending, or bytes whose first piece is undecided
abbrev pub Remains : (pieces : List ℕ → List Piece) (pending : List ℕ) → Type 0
Remains pieces pending = (pending ≡ []) ⊎ ((0 < length pending) × IsUndecided pieces pending)

-- no piece that a part of a call took is malformed, but for a last one that its outcome reports
abbrev pub PartReports : Option DecoderResult → ℕ → List Piece → Type 0
PartReports None pending taken = AreWellFormed taken
PartReports (Some outcome) pending taken = Reports outcome pending taken

-- why a part of a call ended: as its outcome says, or, if it has none, with nothing pending
abbrev pub PartEnds : (after : DriverState) (unread : List ℕ) (last : Bool) (room : Room) → Option DecoderResult → Type 0
PartEnds after unread last room None = after.pending ≡ []
PartEnds after unread last room (Some outcome) = DriverEndsWith after unread last room outcome

-- Room that is enough for the bytes of a part of a call isn't refused, and what is left is enough
-- for those unread (in `Bytes`, after a malformed sequence, for its U+FFFD).
abbrev pub PartSuffices : (before after : OutputUnit → ℕ → ℕ) (last : Bool) (size unread : ℕ) (room : Room) → Option DecoderResult → Type 0
PartSuffices before after last size unread room None = (k : OutputUnit) (m : ℕ) → is_units k ≡ room.in_units → (IsTrue last → m ≡ 0) → before k (size + m) ≤ room.before → after k (unread + m) ≤ room.after
PartSuffices before after last size unread room (Some outcome) = Suffices before after room.in_units last size unread room.before room.after outcome

-- A call of a driver, or a part of one that goes on: which pieces it took and wrote, why it ended,
-- that enough room is not refused, and that at most six bytes are pending, whose first piece ends
-- at most three bytes before their end.
pub record DriverCall (before after : DriverState) (src : List ℕ) (last : Bool) (read : ℕ) (Writes : List ℕ → Type 0) (room : Room) (outcome : Option DecoderResult) : Type 0 where
  pub law : Takes (PartReports outcome (length after.pending)) (to_come before) (to_come after) src last (length before.pending) (length after.pending) read Writes
  pub ends : PartEnds after (drop read src) last room outcome
  pub enough : PartSuffices (needs_to_come before) (needs_to_come after) last (length src) (length src - read) room outcome
  pub short : length after.pending < 7
  pub near : IsNear after.pieces after.pending

-- the state of a decoder that reads by a rule, with given bytes pending
abbrev pub buffered : (pieces : List ℕ → List Piece) (whole : (x : List ℕ) → sizes (pieces x) ≡ length x)
    (are_pieces : (x : List ℕ) → ArePieces (pieces x)) (needs : OutputUnit → ℕ → ℕ) (room : DecodedLength)
    (covers : (k : OutputUnit) (n : ℕ) → needs k n ≤ decoded_length room k n) (pending : List ℕ) → DecoderState
buffered pieces whole are_pieces needs room covers pending = record {
  pieces = λ x. pieces (pending ++ x);
  pending = length pending;
  whole = λ x. whole (pending ++ x) ∙ length-append pending x;
  are_pieces = λ x. are_pieces (pending ++ x);
  needs = λ k n. needs k (length pending + n);
  room = room;
  covers = λ k n. covers k (length pending + n);
}
