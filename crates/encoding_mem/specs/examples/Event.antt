-- Worked rows of `specs/Event.antt`: what is reported to a caller.
use Rattle.std.specs.Prelude.{◌≡◌, [], ◌∷◌, refl}
use Rattle.encoding_mem.specs.Piece.{well_formed, malformed}
use Rattle.encoding_mem.specs.Event.{scalar, malformed_at, events}

-- `A`, a malformed sequence of two bytes, which ends after three, two characters of two bytes, and a byte alone
text_with_malformed : events 0 (well_formed 1 (0x41 ∷ []) ∷ malformed 2 ∷ well_formed 2 (0xCA ∷ 0x304 ∷ []) ∷ malformed 1 ∷ [])
    ≡ scalar 0x41 ∷ malformed_at 2 3 ∷ scalar 0xCA ∷ scalar 0x304 ∷ malformed_at 1 6 ∷ []
text_with_malformed = refl

-- offsets count from the one that the pieces begin at; bytes that stand for nothing count, and are not reported
from_an_offset : events 5 (well_formed 3 [] ∷ malformed 2 ∷ []) ≡ malformed_at 2 10 ∷ []
from_an_offset = refl
