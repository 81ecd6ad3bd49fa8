-- What is reported to a caller: scalars one by one, and each malformed sequence with its length and the offset where
-- it ends.
use Rattle.std.specs.Prelude.{ℕ, ◌+◌, List, [], ◌∷◌, ◌++◌}
use Rattle.encoding_mem.specs.Piece.{Piece, well_formed, malformed}

-- what a decoder reports to its caller: a scalar, or a malformed sequence with its length in bytes and the offset
-- after it
pub data Event : Type 0 where
  scalar : (c : ℕ) → Event
  malformed_at : (size end : ℕ) → Event

-- the events of some scalars, one for each
abbrev pub scalar_events : List ℕ → List Event
scalar_events [] = []
scalar_events (c ∷ cs) = scalar c ∷ scalar_events cs

-- the events of pieces of which the first begins at an offset: each scalar, and each malformed
-- sequence
abbrev pub events : ℕ → List Piece → List Event
events offset [] = []
events offset (well_formed n cs ∷ ps) = scalar_events cs ++ events (offset + n) ps
events offset (malformed n ∷ ps) = malformed_at n (offset + n) ∷ events (offset + n) ps
