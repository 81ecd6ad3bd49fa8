-- Laws of the pieces and the forms of a single-byte encoding.
use Rattle.std.proofs.Common.{◌≡◌, ℕ, ◌-◌, ◌<◌, Bool, List, [], ◌∷◌, length, refl, arith, inl, inr}
use Rattle.std.specs.Prelude.{slice_index, IfSome}
use Rattle.std.specs.Char.{IsScalar}
use Rattle.std.proofs.lemmas.Bool.{cases_lt, cases_eq, lt-ltb, le-ltb, eq-eqb, ne_eqb}
use Rattle.std.proofs.lemmas.Bool.Decides.{nat_tests}
use Rattle.encoding_mem.specs.Coding.{IsCoding}
use Rattle.encoding_mem.specs.calls.EncodedLength.{IsRoomFor, encoded_length_single_byte}
use Rattle.encoding_mem.specs.Piece.{well_formed, piece_of_scalar, Piece}
use Rattle.encoding_mem.specs.laws.Pieces.{CutsEach}
use Rattle.encoding_mem.specs.calls.DecoderRule.{TellsFirstPiece}
use Rattle.encoding_mem.specs.declared.codec.form.Form.TheVariants.{Mapped}
use Rattle.encoding_tables.specs.EachByte.{form_by_byte, first_piece_by_byte}
use Rattle.encoding_tables.specs.laws.EachByte.{AreScalars, first_piece_of_byte, cuts_by_byte, first_piece_by_first, laws_by_byte, fits_by_byte, pieces_by_byte-cons}
use Rattle.encoding_tables.specs.Lookups.{AreEntries, value_of}
use Rattle.encoding_tables.specs.SingleByte.{char_of_byte, single_byte_of_char, pieces_single_byte, single_byte_coding}

-- the first piece of bytes in the single-byte encoding with the index `flat`: the first byte
abbrev pub first_piece_single_byte : List ℕ → List ℕ → Piece
first_piece_single_byte flat = first_piece_by_byte (char_of_byte flat)

-- each entry is in the basic plane
abbrev pub AreBasic : List ℕ → Type 0
AreBasic flat = (p : ℕ) → slice_index flat p < 0x10000

scalar_of_value : (flat : List ℕ) → AreEntries flat → (p : ℕ) → IfSome (value_of flat p) IsScalar
scalar_of_value flat scalars p = elim (cases_eq (slice_index flat p) 0) [
  | inl none ↦ rw (eq-eqb (slice_index flat p) 0 none) tt
  | inr mapped ↦ rw (ne_eqb (slice_index flat p) 0 mapped) (scalars p mapped)
]

pub scalar_of_byte : (flat : List ℕ) → AreEntries flat → AreScalars (char_of_byte flat)
scalar_of_byte flat scalars b = elim (cases_lt b 0x80) [
  | inl low ↦ rw (lt-ltb b 0x80 low) (ascii b low)
  | inr high ↦ rw (le-ltb b 0x80 high) (scalar_of_value flat scalars (b - 0x80))
]
  where
    ascii : (b : ℕ) → b < 0x80 → IsScalar b
    ascii b low = grind (arith, nat_tests)

pub cuts_single_byte : (flat : List ℕ) → AreEntries flat → CutsEach (first_piece_single_byte flat)
cuts_single_byte flat scalars = cuts_by_byte (char_of_byte flat) (scalar_of_byte flat scalars)

-- the first piece of bytes is that of the first byte
pub single_byte_first_piece : (flat : List ℕ) → AreEntries flat → (x : List ℕ) (last : Bool) → 0 < length x
    → TellsFirstPiece (pieces_single_byte flat) (pieces_single_byte flat) x last (first_piece_of_byte (char_of_byte flat (slice_index x 0)))
single_byte_first_piece flat scalars = first_piece_by_first (char_of_byte flat) (scalar_of_byte flat scalars)

-- a target of one byte a character
pub single_byte_laws : (flat : List ℕ) → IsCoding 1 (single_byte_coding flat)
single_byte_laws flat = laws_by_byte (single_byte_of_char flat)

pub single_byte_ascii : (flat : List ℕ) (c : ℕ) → c < 0x80 → form_by_byte (single_byte_of_char flat) c ≡ Mapped (c ∷ [])
single_byte_ascii flat c low = rw (lt-ltb c 0x80 low) refl

pub single_byte_fits : (flat : List ℕ) → IsRoomFor (single_byte_coding flat) encoded_length_single_byte
single_byte_fits flat = fits_by_byte (single_byte_of_char flat)

-- ASCII is itself, whatever follows
pub ascii_is_itself : (flat : List ℕ) (b : ℕ) (x : List ℕ) → b < 0x80 → first_piece_single_byte flat (b ∷ x) ≡ well_formed 1 (b ∷ [])
ascii_is_itself flat b x low = rw (lt-ltb b 0x80 low) refl

-- the piece of a byte, then the pieces of what follows
pub pieces_of_byte : (flat : List ℕ) → AreEntries flat → (b : ℕ) (x : List ℕ) → pieces_single_byte flat (b ∷ x) ≡ piece_of_scalar 1 (char_of_byte flat b) ∷ pieces_single_byte flat x
pieces_of_byte flat scalars = pieces_by_byte-cons (char_of_byte flat) (scalar_of_byte flat scalars)
