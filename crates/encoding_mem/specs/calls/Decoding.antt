-- What a call of a decoder does.
use Rattle.std.specs.Prelude.{◌≡◌, ℕ, ◌+◌, ◌-◌, ◌≤◌, ◌<◌, ◌⊎◌, Bool, true, false, IsTrue, Some, List, [], ◌∷◌, ◌++◌, length, drop}
use Rattle.encoding_mem.specs.Piece.{Piece, malformed, head_piece, piece_len, sizes, scalars, piece_text, AreWellFormed, ArePieces}
use Rattle.encoding_mem.specs.calls.DecodedLength.{decoded_length, counts_past_malformed, is_units, left_after, replacement_len, two_in}
use Rattle.encoding_mem.specs.declared.codec.room.OutputUnit.{OutputUnit}
use Rattle.encoding_mem.specs.declared.codec.room.DecodedLength.{DecodedLength}
use Rattle.encoding_mem.specs.Event.{Event, malformed_at, events, scalar_events}
use Rattle.encoding_mem.specs.declared.codec.decoder_result.DecoderResult.{DecoderResult}
use Rattle.encoding_mem.specs.declared.codec.decoder_result.DecoderResult.TheVariants.{InputEmpty, OutputFull, Malformed}
use Rattle.encoding_mem.specs.Decided.{IsUndecided}

-- A decoder, as its callers know it: the pieces of what is pending and of the bytes that follow, how
-- many bytes are pending, the most room that a call needs, and its decoded length.
pub record DecoderState : Type 0 where
  pub pieces : List ℕ → List Piece
  pub pending : ℕ
  -- joined, the pieces are the pending bytes and those that follow
  pub whole : (x : List ℕ) → sizes (pieces x) ≡ pending + length x
  pub are_pieces : (x : List ℕ) → ArePieces (pieces x)
  -- the most room that a call needs free for so many new bytes, and what is returned to those who ask
  pub needs : OutputUnit → ℕ → ℕ
  pub room : DecodedLength
  pub covers : (k : OutputUnit) (n : ℕ) → needs k n ≤ decoded_length room k (pending + n)

-- The room that a call of a decoder has: whether it is counted in units of UTF-16, not in bytes of
-- UTF-8, and how many of them are free before the call, and after it.
pub record Room : Type 0 where
  pub in_units : Bool
  pub before : ℕ
  pub after : ℕ

-- the room of a call that writes bytes of UTF-8: so many are free before it, and so many after it
abbrev pub bytes_room : (before after : ℕ) → Room
bytes_room before after = record { in_units = false; before = before; after = after }

-- the room of a call that writes units of UTF-16
abbrev pub units_room : (before after : ℕ) → Room
units_room before after = record { in_units = true; before = before; after = after }

-- the room of a call that writes into any destination, by whether its units are those of UTF-16 and
-- by how many are free in it
abbrev pub sink_room : {W : Type 0} (in_units : Bool) (free : W → ℕ) (old new : W) → Room
sink_room in_units free old new = record { in_units = in_units; before = free old; after = free new }

-- a decoder has nothing pending, makes given pieces of bytes, and has a given decoded length
pub record IsFreshDecoder (d : DecoderState) (pieces_of : List ℕ → List Piece) (enough : DecodedLength) : Type 0 where
  pub pending : d.pending ≡ 0
  pub pieces : d.pieces ≡ pieces_of
  pub room : d.room ≡ enough

-- a decoder makes of the bytes to come what a rule makes of them after some bytes, as many as are
-- pending
abbrev pub ReadsByRule : DecoderState → (List ℕ → List Piece) → Type 0
ReadsByRule d pieces_of = (bytes : List ℕ) × (length bytes ≡ d.pending) × (d.pieces ≡ (λ x. pieces_of (bytes ++ x)))

-- fewer than six bytes are pending, whose first piece is undecided and ends at most two bytes
-- before their end
pub record Waits (pieces : List ℕ → List Piece) (pending : ℕ) : Type 0 where
  pub short : pending < 6
  pub undecided : IsUndecided pieces []
  pub soon : (r : List ℕ) (p : Piece) → head_piece (pieces r) ≡ Some p → pending ≤ piece_len p + 2

-- the first piece of what is left is fixed, whatever follows (nothing, if the call is the last),
-- and has text
abbrev pub IsKnown : (pieces : List ℕ → List Piece) (unread : List ℕ) (last : Bool) → Type 0
IsKnown pieces unread last =
    (p : Piece) × ((r : List ℕ) → (IsTrue last → r ≡ []) → head_piece (pieces (unread ++ r)) ≡ Some p) × (0 < length (piece_text p))

-- none of the pieces that a call took is malformed, but for the last if the result reports it,
-- with its bytes (4 at most) and those pending after it (3 at most, 6 in all)
abbrev pub Reports : DecoderResult → ℕ → List Piece → Type 0
Reports InputEmpty pending taken = AreWellFormed taken
Reports OutputFull pending taken = AreWellFormed taken
Reports (Malformed a b) pending taken = (pending ≡ b) × (a ≤ 4) × (b ≤ 3) × (a + b ≤ 6) × ((prefix : List Piece) × AreWellFormed prefix × (taken ≡ prefix ++ (malformed a ∷ [])))

-- A call of a decoder took pieces that pass a given test, and wrote their scalars. The bytes pending
-- before and read are those of the pieces and those pending now. Whatever follows (nothing, if it is
-- the last), the pieces to come were the ones taken, then those to come now.
pub record Takes (WellFormed : List Piece → Type 0) (before after : List ℕ → List Piece) (src : List ℕ) (last : Bool) (pending_before pending_after read : ℕ) (Writes : List ℕ → Type 0) : Type 0 where
  pub taken : List Piece
  pub well_formed : WellFormed taken
  pub within : read ≤ length src
  pub counted : pending_before + read ≡ sizes taken + pending_after
  pub writes : Writes (scalars taken)
  pub rest : (r : List ℕ) → (IsTrue last → r ≡ []) → before (src ++ r) ≡ taken ++ after (drop read src ++ r)

-- A call of a decoder took the first of the pieces to come, whatever may follow, and wrote their
-- scalars (`Takes`): none is malformed, but for a last one that the result reports (`Reports`).
abbrev pub StateLaw : (before after : DecoderState) (src : List ℕ) (last : Bool) (read : ℕ) (Writes : List ℕ → Type 0) → DecoderResult → Type 0
StateLaw before after src last read Writes outcome =
    Takes (Reports outcome after.pending) before.pieces after.pieces src last before.pending after.pending read Writes

-- Why a decoder's call ended: all is read, and nothing is pending or it is undecided; or less than
-- `room` is free, and the next piece has text; or at a malformed sequence, with room for U+FFFD,
-- which takes `replacement`.
abbrev pub EndsWith : (after : DecoderState) (unread : List ℕ) (last : Bool) (free room replacement : ℕ) → DecoderResult → Type 0
EndsWith after unread last free room replacement InputEmpty =
    (unread ≡ []) × (((after.pending ≡ 0) × (after.pieces [] ≡ [])) ⊎ ((last ≡ false) × Waits after.pieces after.pending))
EndsWith after unread last free room replacement OutputFull = (free < room) × IsKnown after.pieces unread last
EndsWith after unread last free room replacement (Malformed a b) = replacement ≤ free

-- A decoder's call with room enough for its bytes and m more (0, if it is the last) does not end
-- for lack of it, and leaves enough for the rest (in `Bytes`, if malformed, for U+FFFD).
abbrev pub Suffices : (before after : OutputUnit → ℕ → ℕ) (units last : Bool) (size unread old new : ℕ) → DecoderResult → Type 0
Suffices before after units last size unread old new InputEmpty = (k : OutputUnit) (m : ℕ) → is_units k ≡ units → (IsTrue last → m ≡ 0) → before k (size + m) ≤ old → after k m ≤ new
Suffices before after units last size unread old new OutputFull = (k : OutputUnit) (m : ℕ) → is_units k ≡ units → (IsTrue last → m ≡ 0) → before k (size + m) ≤ old → ⊥
Suffices before after units last size unread old new (Malformed a b) = (k : OutputUnit) (m : ℕ) → is_units k ≡ units → (IsTrue last → m ≡ 0) → before k (size + m) ≤ old → left_after (counts_past_malformed k) (replacement_len units) (after k (unread + m)) ≤ new

-- One call of a decoder: which pieces it took and wrote (`StateLaw`), why it ended (`EndsWith`),
-- that enough room is not refused (`Suffices`), and that its decoded length stays. How much any
-- character takes, and U+FFFD, follows from what `room` counts (`two_in`, `replacement_len`).
pub record StateCall (before after : DecoderState) (src : List ℕ) (last : Bool) (read : ℕ) (Writes : List ℕ → Type 0) (room : Room) (outcome : DecoderResult) : Type 0 where
  pub law : StateLaw before after src last read Writes outcome
  pub ends : EndsWith after (drop read src) last room.after (two_in room.in_units) (replacement_len room.in_units) outcome
  pub enough : Suffices before.needs after.needs room.in_units last (length src) (length src - read) room.before room.after outcome
  pub limits : after.room ≡ before.room

-- a call of a decoder took each piece that ends three bytes or more before the end of its `size`
-- bytes, pending and handed in, whatever follows (nothing, if it is the last)
abbrev pub TakesSoon : (pieces : List ℕ → List Piece) (src : List ℕ) (last : Bool) (size : ℕ) (taken : List Piece) → Type 0
TakesSoon pieces src last size taken = (r : List ℕ) (ps more : List Piece) → (IsTrue last → r ≡ [])
    → pieces (src ++ r) ≡ ps ++ more → sizes ps + 3 ≤ size → (rest : List Piece) × (taken ≡ ps ++ rest)

-- the event that a decoder's result reports, if any: a malformed sequence, up to a given offset
abbrev pub reported_event : DecoderResult → ℕ → List Event
reported_event InputEmpty offset = []
reported_event OutputFull offset = []
reported_event (Malformed a b) offset = malformed_at a offset ∷ []

-- The state law by events, at offsets from the first pending byte: whatever may follow, the events
-- to come were the scalars that a call wrote, what its result reports, and the events to come now.
abbrev pub EventLaw : (before after : DecoderState) (src : List ℕ) (last : Bool) (read : ℕ) (Writes : List ℕ → Type 0) → DecoderResult → Type 0
EventLaw before after src last read Writes outcome =
    let offset : ℕ = before.pending + read - after.pending in
    (written : List ℕ) × Writes written × ((r : List ℕ) → (IsTrue last → r ≡ []) →
    events 0 (before.pieces (src ++ r)) ≡ (scalar_events written ++ reported_event outcome offset) ++ events offset (after.pieces (drop read src ++ r)))
