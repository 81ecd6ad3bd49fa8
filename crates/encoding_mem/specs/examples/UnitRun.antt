-- Worked rows of `specs/calls/UnitRun.antt`.
use Rattle.std.specs.Prelude.{◌≡◌, [], ◌∷◌, refl}
use Rattle.encoding_mem.specs.Piece.{well_formed}
use Rattle.encoding_mem.specs.calls.UnitRun.{unit_pieces}

-- the units 0041 and 00E9 are two pieces, of one character and two bytes each
two_units : unit_pieces (0x41 ∷ 0xE9 ∷ []) ≡ well_formed 2 (0x41 ∷ []) ∷ well_formed 2 (0xE9 ∷ []) ∷ []
two_units = refl
