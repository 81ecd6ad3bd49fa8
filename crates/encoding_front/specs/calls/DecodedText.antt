-- A call of a decoder that writes U+FFFD for each malformed sequence.
use Rattle.std.specs.Prelude.{◌≡◌, ℕ, ◌+◌, ◌≤◌, ◌<◌, ◌↔◌, Bool, true, IsTrue, List, [], ◌++◌, length, drop}
use Rattle.encoding_mem.specs.Piece.{Piece, text, sizes, malformed_count}
use Rattle.encoding_mem.specs.calls.DecodedLength.{is_units, counts_past_malformed}
use Rattle.encoding_mem.specs.declared.codec.decoder_result.DecoderResult.{DecoderResult}
use Rattle.encoding_mem.specs.declared.codec.room.OutputUnit.{OutputUnit}
use Rattle.encoding_front.specs.declared.coder_result.CoderResult.{CoderResult}
use Rattle.encoding_front.specs.declared.coder_result.CoderResult.TheVariants.{InputEmpty, OutputFull}

-- the pieces that it took, whose text was written, and whether one of them is malformed
pub record TakesText (before after : List ℕ → List Piece) (src : List ℕ) (last : Bool) (pending_before pending_after read : ℕ) (Writes : List ℕ → Type 0) (had_errors : Bool) : Type 0 where
  pub taken : List Piece
  pub had : IsTrue had_errors ↔ (0 < malformed_count taken)
  pub within : read ≤ length src
  pub counted : pending_before + read ≡ sizes taken + pending_after
  pub writes : Writes (text taken)
  pub rest : (r : List ℕ) → (IsTrue last → r ≡ []) → before (src ++ r) ≡ taken ++ after (drop read src ++ r)

-- the result of a call with U+FFFD as one of a call that stops at malformed sequences
abbrev pub raw_result : CoderResult → DecoderResult
raw_result InputEmpty = DecoderResult.InputEmpty
raw_result OutputFull = DecoderResult.OutputFull

-- Room that is enough for the size bytes of a call and m more, with U+FFFD for each malformed sequence, is enough for
-- those that are still unread.
abbrev pub SufficesText : (before after : OutputUnit → ℕ → ℕ) (t last : Bool) (size unread old new : ℕ) → Type 0
SufficesText before after t last size unread old new =
    (k : OutputUnit) (m : ℕ) → counts_past_malformed k ≡ true → is_units k ≡ t → (IsTrue last → m ≡ 0) → before k (size + m) ≤ old → after k (unread + m) ≤ new

-- a call with enough room does not end with `OutputFull`
abbrev pub NeverFull : (before : OutputUnit → ℕ → ℕ) (t last : Bool) (size old : ℕ) → CoderResult → Type 0
NeverFull before t last size old InputEmpty = Unit {0}
NeverFull before t last size old OutputFull = (k : OutputUnit) (m : ℕ) → counts_past_malformed k ≡ true → is_units k ≡ t → (IsTrue last → m ≡ 0) → before k (size + m) ≤ old → ⊥
