-- How a decoder reads the bytes to come, without the laws of its state: so two decoders can be said to read alike.
use Rattle.std.specs.Prelude.{◌≡◌, ℕ, ◌+◌, ◌≤◌, ◌<◌, Some, List, [], ◌++◌, length, take}
use Rattle.encoding_mem.specs.Piece.{Piece, head_piece, piece_len}
use Rattle.encoding_mem.specs.calls.DecodedLength.{decoded_length}
use Rattle.encoding_mem.specs.calls.Decoding.{DecoderState}
use Rattle.encoding_mem.specs.declared.codec.room.OutputUnit.{OutputUnit}
use Rattle.encoding_mem.specs.declared.codec.room.DecodedLength.{DecodedLength}
use Rattle.encoding_mem.specs.declared.codec.saved_pieces.SavedBytes.{SavedBytes}
use Rattle.encoding_mem.specs.declared.codec.saved_pieces.SavedPieces.{SavedPieces}

-- The pieces that the bytes to come will give, how many bytes are pending, the most room that a call needs, and the
-- decoded length.
pub record Reading : Type 0 where
  pub pieces : List ℕ → List Piece
  pub pending : ℕ
  pub needs : OutputUnit → ℕ → ℕ
  pub room : DecodedLength

-- how a decoder in some state reads the bytes to come
abbrev pub reading_of : DecoderState → Reading
reading_of d = record { pieces = d.pieces; pending = d.pending; needs = d.needs; room = d.room }

-- how the bytes to come are read by a rule's pieces, after some bytes that are pending
abbrev pub reading_after : (pieces : List ℕ → List Piece) (needs : OutputUnit → ℕ → ℕ) (room : DecodedLength) (pending : List ℕ) → Reading
reading_after pieces needs room pending = record {
  pieces = λ x. pieces (pending ++ x);
  pending = length pending;
  needs = λ k n. needs k (length pending + n);
  room = room;
}

-- how the bytes to come are read if the mode of a rule, by its number, and some pending bytes are resumed
abbrev pub resumed_by : {F : Type 0} (pieces : F → List ℕ → List Piece) (needs : F → OutputUnit → ℕ → ℕ)
    (limits : F → DecodedLength) (in_mode : F → ℕ → F) (rule : F) → ℕ → List ℕ → Reading
resumed_by pieces needs limits in_mode rule mode pending =
    reading_after (pieces (in_mode rule mode)) (needs (in_mode rule mode)) (limits (in_mode rule mode)) pending

-- the same in an encoding without modes, whose calls need what the length queries return
abbrev pub resumed_plain : (pieces : List ℕ → List Piece) (room : DecodedLength) → ℕ → List ℕ → Reading
resumed_plain pieces room mode pending = reading_after pieces (decoded_length room) room pending

-- the same if nothing is ever pending
abbrev pub with_none_pending : (ℕ → List ℕ → Reading) → ℕ → List ℕ → Reading
with_none_pending resumed mode pending = resumed mode []

-- at most six bytes are pending, and the first piece to come ends at most three bytes before their end
pub record HoldsFew (d : Reading) : Type 0 where
  pub short : d.pending < 7
  pub near : (r : List ℕ) (p : Piece) → head_piece (d.pieces r) ≡ Some p → d.pending ≤ piece_len p + 3

-- the bytes that were saved
abbrev pub saved_bytes : SavedBytes → List ℕ
saved_bytes saved = take saved.len saved.bytes

-- the bytes that were pending in a decoder that was saved
abbrev pub saved_pending : SavedPieces → List ℕ
saved_pending saved = saved_bytes saved.pending
