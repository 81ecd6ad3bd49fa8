-- The replacement encoding (the Encoding Standard, section 14.1.1, "replacement decoder"): a stream that is not empty
-- is one error, and no text.
use Rattle.std.specs.Prelude.{◌≡◌, ℕ, Bool, IsTrue, List, [], ◌∷◌, ◌++◌, map}
use Rattle.encoding_mem.specs.Piece.{Piece, well_formed, malformed, malformed_count, text}
use Rattle.encoding_mem.specs.calls.Decoding.{DecoderState, EndsWith}
use Rattle.encoding_mem.specs.declared.codec.decoder_result.DecoderResult.TheVariants.{OutputFull}

-- the pieces of bytes in replacement, one for each: the first is malformed, the others are ignored
abbrev pub pieces_replacement : List ℕ → List Piece
pieces_replacement [] = []
pieces_replacement (b ∷ x) = malformed 1 ∷ map (λ _. well_formed 1 []) x

-- one or more bytes in replacement have one malformed piece, and U+FFFD is all their text
abbrev pub IsOneError : Type 0
IsOneError = (b : ℕ) (x : List ℕ) → (malformed_count (pieces_replacement (b ∷ x)) ≡ 1) × (text (pieces_replacement (b ∷ x)) ≡ 0xFFFD ∷ [])

-- after replacement's error was returned, no call of a decoder ends for lack of room
abbrev pub NeedsRoomOnce : Type 0
NeedsRoomOnce = (s : DecoderState) (unread : List ℕ) (last : Bool) (free room replacing : ℕ)
    → ((r : List ℕ) → (IsTrue last → r ≡ []) → s.pieces (unread ++ r) ≡ map (λ _. well_formed 1 []) (unread ++ r))
    → EndsWith s unread last free room replacing OutputFull → ⊥
