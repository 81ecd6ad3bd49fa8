-- What is written for one character, read back: how a whole output reads follows from it, character by character.
use Rattle.std.specs.Prelude.{◌≡◌, ◌≢◌, ℕ, ◌<◌, ◌≤◌, ◌⊎◌, List, [], ◌∷◌, ◌++◌, length, slice_index}
use Rattle.std.specs.Char.{IsScalar}
use Rattle.encoding_mem.specs.Coding.{Coding, spelled}
use Rattle.encoding_mem.specs.Piece.{Piece, piece_len, piece_scalars, text, sizes, IsWellFormedPiece, AreWellFormed, well_formed}
use Rattle.encoding_mem.specs.declared.codec.reference.Reference.{Reference}
use Rattle.encoding_mem.specs.declared.codec.form.Form.{Form}
use Rattle.encoding_mem.specs.declared.codec.form.EscapeState.{EscapeState}
use Rattle.encoding_mem.specs.Decided.{IsFixed}

-- what is written for one character from a set in force on: its escape, then its bytes or
-- reference
abbrev pub one_from : Reference → Coding → EscapeState → ℕ → List ℕ
one_from ref e s c = e.escape s (e.set s c) ++ spelled ref (e.form c)

-- Whatever follows some bytes, a decoder reads all of them, and no more, as well-formed pieces
-- with a given text, and what follows from another state.
pub record Follows (before after : List ℕ → List Piece) (bytes t : List ℕ) : Type 0 where
  pub taken : List Piece
  pub well_formed : AreWellFormed taken
  pub same : text taken ≡ t
  pub whole : sizes taken ≡ length bytes
  pub rest : (r : List ℕ) → before (bytes ++ r) ≡ taken ++ after r

-- two texts differ in the character at an index that both have
pub record TextsDiffer (a b : List ℕ) : Type 0 where
  pub offset : ℕ
  pub in_one : offset < length a
  pub in_other : offset < length b
  pub apart : slice_index a offset ≢ slice_index b offset

-- Bytes never read as a text or one that begins with it: of pieces that they begin with, whatever
-- follows, one is malformed, or the pieces' text differs from it at an index that both have.
pub record IsBroken (before : List ℕ → List Piece) (bytes t : List ℕ) : Type 0 where
  pub taken : List Piece
  pub decided : IsFixed before bytes taken
  pub wrong : (AreWellFormed taken → ⊥) ⊎ TextsDiffer (text taken) t

-- A target reads back step by step: what is written for a scalar, read from the set in force, is
-- the scalar, and what follows is read from the scalar's set; or it is broken (`IsBroken`).
abbrev pub StepLaw : Coding → (EscapeState → List ℕ → List Piece) → Type 0
StepLaw e pieces_from = (ref : Reference) (s : EscapeState) (c : ℕ) → IsScalar c
    → Follows (pieces_from s) (pieces_from (e.set s c)) (one_from ref e s c) (c ∷ []) ⊎ IsBroken (pieces_from s) (one_from ref e s c) (c ∷ [])

-- the pieces of a decoder with one mode, whatever set is in force
abbrev pub in_any_set : (List ℕ → List Piece) → EscapeState → List ℕ → List Piece
in_any_set pieces s = pieces

-- ---- the same by the first piece, if there is one mode

-- whatever follows some bytes, the first piece is all of them, and gives one given scalar
pub record Returns (first_piece : List ℕ → Piece) (bytes : List ℕ) (c : ℕ) : Type 0 where
  pub piece : (y : List ℕ) → first_piece (bytes ++ y) ≡ well_formed (length bytes) (c ∷ [])

-- whatever follows some bytes, they begin with one piece, malformed or of a scalar other than a
-- given one
pub record Strays (first_piece : List ℕ → Piece) (bytes : List ℕ) (c : ℕ) : Type 0 where
  pub piece : Piece
  pub first : (y : List ℕ) → first_piece (bytes ++ y) ≡ piece
  pub within : piece_len piece ≤ length bytes
  pub wrong : (¬ (IsWellFormedPiece piece)) ⊎ ((d : ℕ) × (d ≢ c) × (piece_scalars piece ≡ d ∷ []))

-- whatever follows what is written for a scalar, its bytes or its reference, it is a piece that
-- gives the scalar (`Returns`), or begins with a malformed one or another scalar's (`Strays`)
abbrev pub StepsReadBack : (List ℕ → Piece) → (ℕ → Form) → Type 0
StepsReadBack prefix form = (ref : Reference) (c : ℕ) → IsScalar c → Returns prefix (spelled ref (form c)) c ⊎ Strays prefix (spelled ref (form c)) c
