-- Laws of the codecs in which each byte is a piece by itself.
use Rattle.std.proofs.Common.{◌≡◌, ℕ, ◌+◌, ◌≤◌, ◌<◌, Bool, List, [], ◌∷◌, length, drop, refl, ap, ◌∙◌, arith, lit≤, lit<, Option, None, Some}
use Rattle.std.specs.Prelude.{slice_index, IfSome}
use Rattle.std.specs.Option.{option_map}
use Rattle.std.specs.Char.{IsScalar}
use Rattle.encoding_mem.specs.calls.EncodedLength.{IsRoomFor, encoded_length_single_byte}
use Rattle.encoding_mem.specs.laws.EncodedLength.{single_byte_room}
use Rattle.encoding_mem.specs.Coding.{IsCoding, FitsNeed, form_of_bytes, Coding}
use Rattle.encoding_mem.specs.laws.Stateless.{stateless_laws, short_one, short_none}
use Rattle.encoding_mem.specs.Piece.{piece_len, Cuts, piece_of_scalar, Piece}
use Rattle.encoding_mem.specs.laws.Pieces.{CutsEach, pieces_by-cons}
use Rattle.encoding_mem.specs.laws.Utf8.{cuts_malformed, cuts_one}
use Rattle.encoding_mem.specs.calls.DecoderRule.{TellsFirstPiece}
use Rattle.encoding_mem.specs.laws.Shows.{Shows, shows_first_piece}
use Rattle.encoding_mem.specs.declared.codec.form.Form.{Form}
use Rattle.encoding_mem.specs.declared.codec.first_piece.FirstPiece.{FirstPiece}
use Rattle.encoding_mem.specs.declared.codec.first_piece.FirstPiece.TheVariants.{One, Malformed}
use Rattle.encoding_mem.specs.Stateless.{stateless}
use Rattle.encoding_mem.specs.Pieces.{pieces_by}
use Rattle.encoding_tables.specs.EachByte.{first_piece_by_byte, form_by_byte}

-- the pieces of some bytes, one for each: the character that `char_of` gives it, or malformed
abbrev pub pieces_by_byte : (ℕ → Option ℕ) → List ℕ → List Piece
pieces_by_byte char_of x = pieces_by (first_piece_by_byte char_of) x

-- the target in which a character is the one byte that `byte_of` gives it, or has no bytes
abbrev pub coding_by_byte : (ℕ → Option ℕ) → Coding
coding_by_byte byte_of = stateless (form_by_byte byte_of)

-- each character is a scalar
abbrev pub AreScalars : (ℕ → Option ℕ) → Type 0
AreScalars char_of = (b : ℕ) → IfSome (char_of b) IsScalar

-- what a look at a byte shows: it is decided at once
abbrev pub first_piece_of_byte : Option ℕ → FirstPiece
first_piece_of_byte None = Malformed 1
first_piece_of_byte (Some c) = One c 1

cuts_piece : (o : Option ℕ) (n : ℕ) → 1 ≤ n → IfSome o IsScalar → Cuts (piece_of_scalar 1 o) n
cuts_piece None n some scalar = cuts_malformed 1 n (lit< tt) some
cuts_piece (Some c) n some scalar = cuts_one 1 c n (lit< tt) some scalar

pub cuts_by_byte : (char_of : ℕ → Option ℕ) → AreScalars char_of → CutsEach (first_piece_by_byte char_of)
cuts_by_byte char_of scalars b x = cuts_piece (char_of b) (1 + length x) (omega arith) (scalars b)

shows_byte : (char_of : ℕ → Option ℕ) (b : ℕ) (x : List ℕ) (last : Bool) (o : Option ℕ) → char_of b ≡ o → Shows (first_piece_by_byte char_of) 0 (b ∷ x) last (first_piece_of_byte o)
shows_byte char_of b x last None is = ((lit< tt, omega arith, λ r e. ap (piece_of_scalar 1) is), lit≤ tt)
shows_byte char_of b x last (Some c) is = (lit< tt, omega arith, λ r e. ap (piece_of_scalar 1) is)

-- the first piece of bytes is that of the first byte
pub first_piece_by_first : (char_of : ℕ → Option ℕ) → AreScalars char_of → (x : List ℕ) (last : Bool) → 0 < length x
    → TellsFirstPiece (pieces_by_byte char_of) (pieces_by_byte char_of) x last (first_piece_of_byte (char_of (slice_index x 0)))
first_piece_by_first char_of scalars [] last some = absurd (omega (arith, some))
first_piece_by_first char_of scalars (b ∷ x) last some =
    shows_first_piece (first_piece_by_byte char_of) (cuts_by_byte char_of scalars) (b ∷ x) last _ some (shows_byte char_of b x last (char_of b) refl)

-- the form of a character by the byte that it has, if any
abbrev pub form_of_byte : ℕ → Option ℕ → Form
form_of_byte c o = form_of_bytes c (option_map (λ b. b ∷ []) o)

-- a target of one byte a character
short_form : (c : ℕ) (o : Option ℕ) → FitsNeed 1 (form_of_byte c o)
short_form c None = short_none
short_form c (Some b) = short_one

pub laws_by_byte : (byte_of : ℕ → Option ℕ) → IsCoding 1 (coding_by_byte byte_of)
laws_by_byte byte_of = stateless_laws 1 (λ c. form_of_byte c (byte_of c)) (lit≤ tt) (λ c. short_form c (byte_of c))

pub fits_by_byte : (byte_of : ℕ → Option ℕ) → IsRoomFor (coding_by_byte byte_of) encoded_length_single_byte
fits_by_byte byte_of = single_byte_room (λ c. form_of_byte c (byte_of c)) (λ c. short_form c (byte_of c))

-- the piece of a byte alone
pub size_of-piece : (o : Option ℕ) → piece_len (piece_of_scalar 1 o) ≡ 1
size_of-piece None = refl
size_of-piece (Some c) = refl

pub pieces_by_byte-cons : (char_of : ℕ → Option ℕ) → AreScalars char_of → (b : ℕ) (x : List ℕ) → pieces_by_byte char_of (b ∷ x) ≡ piece_of_scalar 1 (char_of b) ∷ pieces_by_byte char_of x
pieces_by_byte-cons char_of scalars b x =
    pieces_by-cons (first_piece_by_byte char_of) (cuts_by_byte char_of scalars) b x
    ∙ ap (λ n. piece_of_scalar 1 (char_of b) ∷ pieces_by_byte char_of (drop n (b ∷ x))) (size_of-piece (char_of b))
