-- Where an input is first malformed, as a caller of a decoder reports it.
use Rattle.std.specs.Prelude.{◌≡◌, ℕ, ◌+◌, ◌<◌, List, ◌∷◌, ◌++◌, encode_utf8_all, length}
use Rattle.encoding_mem.specs.Piece.{AreWellFormed, Piece, malformed, sizes, text}
use Rattle.test_examples.specs.declared.first_faults.FirstFault.{FirstFault}
use Rattle.test_examples.specs.declared.first_faults.FirstFault.TheVariants.{Absent, At, Unknown}

-- a malformed sequence of this size stands at this offset, and no piece before it is malformed
pub record IsFirstMalformed (offset size : ℕ) (pieces : List Piece) : Type 0 where
  pub before : List Piece
  pub after : List Piece
  pub well_formed : AreWellFormed before
  pub stands : sizes before ≡ offset
  pub split : pieces ≡ before ++ (malformed size ∷ after)

-- some of these pieces stand first, none of them malformed, whose text in UTF-8 leaves fewer than 4 bytes of so much room
pub record IsCrowded (room : ℕ) (pieces : List Piece) : Type 0 where
  pub before : List Piece
  pub after : List Piece
  pub well_formed : AreWellFormed before
  pub full : room < length (encode_utf8_all (text before)) + 4
  pub split : pieces ≡ before ++ after

-- what was reported of the first malformed sequence, by a caller with so much room, is true of these pieces
abbrev pub TellsFirstFault : (room : ℕ) → FirstFault → List Piece → Type 0
TellsFirstFault room Absent pieces = AreWellFormed pieces
TellsFirstFault room (At offset size) pieces = IsFirstMalformed offset size pieces
TellsFirstFault room Unknown pieces = IsCrowded room pieces
