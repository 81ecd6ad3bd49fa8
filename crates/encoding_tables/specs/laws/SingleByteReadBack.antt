-- What a single-byte encoding writes reads back exactly when each character has a byte, and character by character.
use Rattle.std.proofs.Common.{◌≡◌, ℕ, ◌+◌, ◌-◌, List, refl, arith, inl, inr, Some}
use Rattle.std.proofs.lemmas.Bool.{cases_lt, lt-ltb, le-ltb}
use Rattle.encoding_mem.specs.Agreement.{ReadsByStep}
use Rattle.encoding_mem.specs.Piece.{ArePieces}
use Rattle.encoding_mem.specs.laws.Pieces.{pieces_by-are_pieces}
use Rattle.encoding_mem.specs.ReadBack.{ReadsBackExactly}
use Rattle.encoding_mem.specs.Steps.{StepLaw, in_any_set}
use Rattle.encoding_tables.specs.laws.EachByteReadBack.{ReadsBack, exact_by_byte, steps_by_byte, by_step_by_byte}
use Rattle.encoding_tables.specs.Lookups.{AreEntries, first_pointer}
use Rattle.encoding_tables.specs.SingleByte.{char_of_byte, single_byte_of_char, pieces_single_byte, single_byte_coding}
use Rattle.encoding_tables.specs.LookupLaws.{IsPointer}
use Rattle.encoding_tables.specs.laws.OptionCases.{map_some}
use Rattle.encoding_tables.specs.laws.Pointers.{first_is_least}
use Rattle.encoding_tables.specs.laws.SingleByte.{scalar_of_byte, cuts_single_byte, first_piece_single_byte}

-- The byte of a character reads as that character.
found : (flat : List ℕ) (c from to p : ℕ) → first_pointer flat c from to ≡ Some p → IsPointer flat c from to p
found flat c from to p e = (rw e at (first_is_least flat c from to)).0

byte_reads_back : (flat : List ℕ) → ReadsBack (char_of_byte flat) (single_byte_of_char flat)
byte_reads_back flat c b e = elim (cases_lt c 0x80) [
  | inl low ↦
      let some = rw (lt-ltb c 0x80 low) at e in
      let same : c ≡ b = cc in
      rw (← same, lt-ltb c 0x80 low) refl
  | inr high ↦
      let m = map_some (λ p. 0x80 + p) (first_pointer flat c 0 128) b (rw (le-ltb c 0x80 high) at e) in
      let back : b - 0x80 ≡ m.0 = omega (arith, m.2) in
      rw (le-ltb b 0x80 (omega (arith, m.2)), back) (found flat c 0 128 m.0 m.1).entry
]

pub single_byte_exact : (flat : List ℕ) → AreEntries flat → ReadsBackExactly (pieces_single_byte flat) (single_byte_coding flat)
single_byte_exact flat scalars = exact_by_byte (char_of_byte flat) (single_byte_of_char flat) (scalar_of_byte flat scalars) (byte_reads_back flat)

pub single_byte_steps : (flat : List ℕ) → AreEntries flat → StepLaw (single_byte_coding flat) (in_any_set (pieces_single_byte flat))
single_byte_steps flat scalars = steps_by_byte (char_of_byte flat) (single_byte_of_char flat) (scalar_of_byte flat scalars) (byte_reads_back flat) refl

pub single_byte_by_step : (flat : List ℕ) → AreEntries flat → ReadsByStep (single_byte_coding flat) (in_any_set (pieces_single_byte flat))
single_byte_by_step flat scalars = by_step_by_byte (char_of_byte flat) (single_byte_of_char flat) (scalar_of_byte flat scalars) (byte_reads_back flat) refl

-- and bytes are cut into pieces
pub single_byte_are_pieces : (flat : List ℕ) → AreEntries flat → (x : List ℕ) → ArePieces (pieces_single_byte flat x)
single_byte_are_pieces flat scalars x = pieces_by-are_pieces (first_piece_single_byte flat) (cuts_single_byte flat scalars) x
