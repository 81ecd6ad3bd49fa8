-- The first piece of UTF-8, said of forms and not of single bytes (Unicode, section 3.9, "U+FFFD Substitution of
-- Maximal Subparts"; the Encoding Standard, section 8.1.1, "UTF-8 decoder").
use Rattle.std.specs.Prelude.{◌≡◌, ◌↔◌, ℕ, ◌<◌, ◌⊎◌, List, [], ◌∷◌, ◌++◌, length, drop}
use Rattle.std.specs.Char.{IsScalar, encode_utf8}
use Rattle.encoding_mem.specs.LongestPrefix.{IsLongestPrefix}
use Rattle.encoding_mem.specs.Piece.{Piece, well_formed, malformed, piece_len}
use Rattle.encoding_mem.specs.Utf8.{pieces_utf8}

-- bytes begin with all the bytes that a given scalar value has in UTF-8
pub record BeginsWithForm (bytes : List ℕ) (c : ℕ) : Type 0 where
  pub scalar : IsScalar c
  pub rest : List ℕ
  pub is : bytes ≡ encode_utf8 c ++ rest

-- bytes are a prefix of the bytes that some scalar value has in UTF-8
pub record IsFormPrefix (bytes : List ℕ) : Type 0 where
  pub char : ℕ
  pub scalar : IsScalar char
  pub rest : List ℕ
  pub is : encode_utf8 char ≡ bytes ++ rest

-- bytes may be one malformed sequence: a prefix of some scalar value's UTF-8, or a single byte
abbrev pub IsSubpart : List ℕ → Type 0
IsSubpart bytes = IsFormPrefix bytes ⊎ (length bytes ≡ 1)

-- the first n bytes are the "maximal subpart" (Unicode, section 3.9): no scalar value's UTF-8
-- begins here, and no longer prefix may be one malformed sequence (`IsSubpart`)
pub record IsMaximalSubpart (bytes : List ℕ) (n : ℕ) : Type 0 where
  pub some : 0 < n
  pub no_form : (c : ℕ) → ¬ (BeginsWithForm bytes c)
  pub longest : IsLongestPrefix IsSubpart bytes n

-- a piece is what Unicode makes first of bytes in UTF-8: all the bytes of a scalar value, which it
-- gives, or, malformed, the "maximal subpart" (Unicode, section 3.9)
abbrev pub IsUtf8Piece : List ℕ → Piece → Type 0
IsUtf8Piece bytes (well_formed n cs) = (c : ℕ) × BeginsWithForm bytes c × (n ≡ length (encode_utf8 c)) × (cs ≡ c ∷ [])
IsUtf8Piece bytes (malformed n) = IsMaximalSubpart bytes n

-- one or more pieces are those of bytes in UTF-8 exactly when the first is what Unicode makes first of the bytes
-- (`IsUtf8Piece`), and the others are the pieces of the bytes after it
abbrev pub Utf8PiecesAreMaximal : Type 0
Utf8PiecesAreMaximal = (bytes : List ℕ) (p : Piece) (ps : List Piece)
    → (pieces_utf8 bytes ≡ p ∷ ps) ↔ (IsUtf8Piece bytes p × (ps ≡ pieces_utf8 (drop (piece_len p) bytes)))
