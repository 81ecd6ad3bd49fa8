-- What a rule says of the start of some bytes.
use Rattle.std.specs.Prelude.{◌≡◌, ℕ, ◌+◌, ◌*◌, ◌≤◌, ◌<◌, Bool, true, false, IsTrue, Some, List, [], ◌∷◌, ◌++◌, length, drop}
use Rattle.std.specs.Char.{len_utf8}
use Rattle.encoding_mem.specs.Piece.{Piece, well_formed, malformed, head_piece, piece_len}
use Rattle.encoding_mem.specs.calls.Writing.{len_utf16}
use Rattle.encoding_mem.specs.calls.DecodedLength.{is_units, counts_past_malformed, cost_in, replacement_len, two_in, left_after}
use Rattle.encoding_mem.specs.declared.codec.room.OutputUnit.{OutputUnit}
use Rattle.encoding_mem.specs.declared.codec.first_piece.FirstPiece.{FirstPiece}
use Rattle.encoding_mem.specs.declared.codec.first_piece.FirstPiece.TheVariants.{More, One, Two, Ignored, Malformed}
use Rattle.encoding_mem.specs.Decided.{IsUndecided}

-- whatever follows some bytes, the first piece ends at most two bytes before their end
abbrev pub IsSoon : (List ℕ → List Piece) → List ℕ → Type 0
IsSoon pieces x = (r : List ℕ) (p : Piece) → head_piece (pieces (x ++ r)) ≡ Some p → length x ≤ piece_len p + 2

-- a piece of one byte or more is the first of some bytes, within them, whatever follows (nothing,
-- if they are the last of the input), and what follows it is read from another state
pub record IsFirstPiece (before after : List ℕ → List Piece) (bytes : List ℕ) (last : Bool) (p : Piece) : Type 0 where
  pub some : 0 < piece_len p
  pub within : piece_len p ≤ length bytes
  pub rest : (r : List ℕ) → (IsTrue last → r ≡ []) → before (bytes ++ r) ≡ p ∷ after (drop (piece_len p) bytes ++ r)

-- a rule's report of some bytes is true: their first piece, or that more are needed, since fewer than
-- six are there, which do not decide it and are not the last of the input
abbrev pub TellsFirstPiece : (before after : List ℕ → List Piece) → List ℕ → Bool → FirstPiece → Type 0
TellsFirstPiece before after bytes last More = (last ≡ false) × (length bytes < 6) × IsUndecided before bytes × IsSoon before bytes
TellsFirstPiece before after bytes last (One c n) = IsFirstPiece before after bytes last (well_formed n (c ∷ []))
TellsFirstPiece before after bytes last (Two c d n) = IsFirstPiece before after bytes last (well_formed n (c ∷ d ∷ [])) × (c < 0x800) × (d < 0x800)
TellsFirstPiece before after bytes last (Ignored n) = IsFirstPiece before after bytes last (well_formed n [])
TellsFirstPiece before after bytes last (Malformed n) = IsFirstPiece before after bytes last (malformed n) × (n ≤ 4)

-- In each output unit the room needed for a first piece and m bytes after it (all that are left, if
-- the input ends there) is enough for its text and then for the m (`left_after`, if malformed).
abbrev pub HasRoomFor : (before after : OutputUnit → ℕ → ℕ) (len : ℕ) (last : Bool) → FirstPiece → Type 0
HasRoomFor before after len last More = Unit {0}
HasRoomFor before after len last (One c n) = (k : OutputUnit) (m : ℕ) → (IsTrue last → n + m ≡ len) → cost_in (is_units k) c + after k m ≤ before k (n + m)
HasRoomFor before after len last (Two c d n) = (k : OutputUnit) (m : ℕ) → (IsTrue last → n + m ≡ len) → (two_in (is_units k) ≤ before k (n + m)) × (cost_in (is_units k) c + cost_in (is_units k) d + after k m ≤ before k (n + m))
HasRoomFor before after len last (Ignored n) = (k : OutputUnit) (m : ℕ) → (IsTrue last → n + m ≡ len) → after k m ≤ before k (n + m)
HasRoomFor before after len last (Malformed n) = (k : OutputUnit) (m : ℕ) → (IsTrue last → n + m ≡ len) → left_after (counts_past_malformed k) (replacement_len (is_units k)) (after k m) ≤ before k (n + m)

-- a rule's report of a first piece gives one scalar at most, of no more bytes in UTF-8 than the
-- piece has; a malformed piece has a byte
abbrev pub IsNotLonger : FirstPiece → Type 0
IsNotLonger More = Unit {0}
IsNotLonger (One c n) = len_utf8 c ≤ n
IsNotLonger (Two c d n) = ⊥
IsNotLonger (Ignored n) = Unit {0}
IsNotLonger (Malformed n) = 0 < n

-- a rule's report of a first piece is one scalar below U+10000 or a malformed sequence, of at least
-- one byte, or that more bytes are needed
abbrev pub IsBasic : FirstPiece → Type 0
IsBasic More = Unit {0}
IsBasic (One c n) = (c < 0x10000) × (0 < n)
IsBasic (Two c d n) = ⊥
IsBasic (Ignored n) = ⊥
IsBasic (Malformed n) = 0 < n

-- a rule's report of a first piece gives at most three bytes of UTF-8 and one unit of UTF-16 for
-- each byte of it, with U+FFFD if it is malformed; two scalars are below U+0800
abbrev pub IsModest : FirstPiece → Type 0
IsModest More = Unit {0}
IsModest (One c n) = (len_utf8 c ≤ 3 * n) × (len_utf16 c ≤ n)
IsModest (Two c d n) = (c < 0x800) × (d < 0x800) × (2 ≤ n)
IsModest (Ignored n) = Unit {0}
IsModest (Malformed n) = 0 < n

-- what is known of n bytes that end in the midst of a piece: they are malformed if they are the last,
-- and else more may come
abbrev pub cut_short : ℕ → Bool → FirstPiece
cut_short n true = Malformed n
cut_short n false = More
