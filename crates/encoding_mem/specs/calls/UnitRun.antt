-- A run of characters below U+D800 that stand in units of UTF-16, of two bytes each.
use Rattle.std.specs.Prelude.{◌≡◌, ℕ, ◌*◌, ◌<◌, ◌≤◌, List, [], ◌∷◌, ◌++◌, length, map, slice_index, take}
use Rattle.encoding_mem.specs.Piece.{Piece, well_formed}

-- the pieces of units of UTF-16 that are no surrogates: two bytes and one character for each
abbrev pub unit_pieces : List ℕ → List Piece
unit_pieces units = map (λ u. well_formed 2 (u ∷ [])) units

-- the pieces of some bytes begin with units of UTF-16, whatever follows: at most 32, all below
-- D800 hex, each a character of two bytes
pub record BeginWithUnits (pieces : List ℕ → List Piece) (bytes units : List ℕ) : Type 0 where
  pub few : length units ≤ 32
  pub within : 2 * length units ≤ length bytes
  pub plain : (k : ℕ) → slice_index units k < 0xD800
  pub rest : (r : List ℕ) → pieces (take (2 * length units) bytes ++ r) ≡ unit_pieces units ++ pieces r
