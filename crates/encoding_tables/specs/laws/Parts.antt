-- Where an input in an encoding of one byte a character can be cut: after each byte that gives its own number.
use Rattle.std.proofs.Common.{◌≡◌, ℕ, List, [], ◌∷◌, refl, ap, arith, Option, None, Some}
use Rattle.std.proofs.lemmas.Bool.{lt-ltb}
use Rattle.encoding_mem.specs.Parts.{IsCutByte, StandsAlone}
use Rattle.encoding_mem.specs.Piece.{piece_len, piece_of_scalar}
use Rattle.encoding_mem.specs.declared.codec.form.Form.TheVariants.{Mapped}
use Rattle.encoding_mem.specs.laws.Parts.{ClosesAt, stands_alone, stays_const}
use Rattle.encoding_tables.specs.EachByte.{first_piece_by_byte, form_by_byte}
use Rattle.encoding_tables.specs.Lookups.{AreEntries}
use Rattle.encoding_tables.specs.SingleByte.{char_of_byte, pieces_single_byte, single_byte_of_char}
use Rattle.encoding_tables.specs.UserDefined.{byte_of_user_char, pieces_user_defined, user_char_of_byte}
use Rattle.encoding_tables.specs.laws.SingleByte.{cuts_single_byte, first_piece_single_byte}
use Rattle.encoding_tables.specs.laws.UserDefined.{cuts_user_defined, first_piece_user_defined}

size_of : (o : Option ℕ) → piece_len (piece_of_scalar 1 o) ≡ 1
size_of None = refl
size_of (Some c) = refl

by_byte_closes : (char_of : ℕ → Option ℕ) (a : ℕ) → char_of a ≡ Some a → ClosesAt (first_piece_by_byte char_of) a
by_byte_closes char_of a is = record {
  alone = λ y. ap (piece_of_scalar 1) is;
  before = λ b x. stays_const (piece_of_scalar 1 (char_of b)) _ (omega (arith, size_of (char_of b)));
}

pub single_byte_stands_alone : (flat : List ℕ) (a : ℕ) → AreEntries flat → IsCutByte a → StandsAlone (pieces_single_byte flat) a
single_byte_stands_alone flat a scalars h =
    stands_alone (first_piece_single_byte flat) a (cuts_single_byte flat scalars) (by_byte_closes (char_of_byte flat) a (rw (lt-ltb a 0x80 (omega arith)) refl))

pub user_defined_stands_alone : (a : ℕ) → IsCutByte a → StandsAlone pieces_user_defined a
user_defined_stands_alone a h =
    stands_alone first_piece_user_defined a cuts_user_defined (by_byte_closes user_char_of_byte a (rw (lt-ltb a 0x80 (omega arith)) refl))

-- and it is what is written for that character
pub single_byte_writes : (flat : List ℕ) (a : ℕ) → IsCutByte a → form_by_byte (single_byte_of_char flat) a ≡ Mapped (a ∷ [])
single_byte_writes flat a h = rw (lt-ltb a 0x80 (omega arith)) refl

pub user_defined_writes : (a : ℕ) → IsCutByte a → form_by_byte byte_of_user_char a ≡ Mapped (a ∷ [])
user_defined_writes a h = rw (lt-ltb a 0x80 (omega arith)) refl
