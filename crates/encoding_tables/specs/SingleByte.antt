-- The single-byte encodings, by the list of an index (the Encoding Standard, section 9.1, "single-byte decoder", and
-- section 9.2, "single-byte encoder").
use Rattle.std.specs.Prelude.{◌≡◌, ◌≢◌, ℕ, ◌+◌, ◌-◌, ◌<◌, ◌≤◌, ◌==◌, Bool, false, List, [], ◌∷◌, length, nat_lt, if◌then◌else◌, Option, None, Some, slice_index}
use Rattle.std.specs.Option.{option_map}
use Rattle.encoding_mem.specs.Coding.{Coding}
use Rattle.encoding_mem.specs.Piece.{Piece, well_formed}
use Rattle.encoding_mem.specs.Pieces.{pieces_by}
use Rattle.encoding_mem.specs.Stateless.{stateless}
use Rattle.encoding_tables.specs.EachByte.{first_piece_by_byte, form_by_byte}
use Rattle.encoding_tables.specs.Lookups.{value_of, first_pointer}

-- the character of a byte in the single-byte encoding with the index `flat`: itself if it is
-- ASCII, else the entry at the pointer 80 hex below it, if mapped
abbrev pub char_of_byte : List ℕ → ℕ → Option ℕ
char_of_byte flat b = if nat_lt b 0x80 then Some b else value_of flat (b - 0x80)

-- the byte of a character in the single-byte encoding with the index `flat`: itself if it is
-- ASCII, else 80 hex more than the least pointer with it, if there is one
abbrev pub single_byte_of_char : List ℕ → ℕ → Option ℕ
single_byte_of_char flat c = if nat_lt c 0x80 then Some c else option_map (λ p. 0x80 + p) (first_pointer flat c 0 128)

-- the pieces of bytes in the single-byte encoding with the index `flat`, one for each byte
abbrev pub pieces_single_byte : List ℕ → List ℕ → List Piece
pieces_single_byte flat x = pieces_by (first_piece_by_byte (char_of_byte flat)) x

-- the single-byte encoding with the index `flat` as a target: one byte for a character, or none
abbrev pub single_byte_coding : List ℕ → Coding
single_byte_coding flat = stateless (form_by_byte (single_byte_of_char flat))

-- whether a byte has a character, and it is the one with the byte's number
abbrev pub has_number : ℕ → Option ℕ → Bool
has_number b None = false
has_number b (Some c) = c == b

-- each of the first n of some bytes is read, alone, as the character with its number, and the next
-- byte, if there is one, is not
pub record IsLatin1UpTo (pieces : List ℕ → List Piece) (bytes : List ℕ) (n : ℕ) : Type 0 where
  pub within : n ≤ length bytes
  pub same : (k : ℕ) → k < n → pieces (slice_index bytes k ∷ []) ≡ well_formed 1 (slice_index bytes k ∷ []) ∷ []
  pub other : n < length bytes → pieces (slice_index bytes n ∷ []) ≢ well_formed 1 (slice_index bytes n ∷ []) ∷ []
