-- What an engine owes, and what its calls do.
use Rattle.std.specs.Prelude.{◌≡◌, ◌↔◌, ℕ, ◌+◌, ◌-◌, ◌*◌, ◌^◌, ◌<◌, ◌≤◌, List, [], ◌∷◌, ◌++◌, length, Bool, true, false, Option, None, Some}
use Rattle.encoding_mem.specs.Coding.{last_set}
use Rattle.encoding_mem.specs.Items.{Item}
use Rattle.encoding_mem.specs.Piece.{Piece, malformed, malformed_count, sizes, text, well_formed}
use Rattle.encoding_mem.specs.declared.codec.decoder_result.DecoderResult.{DecoderResult}
use Rattle.encoding_mem.specs.declared.codec.decoder_result.DecoderResult.TheVariants as decoded
use Rattle.encoding_mem.specs.declared.codec.reference.Reference.{Reference}
use Rattle.recode_log.specs.Line.{IsValid}
use Rattle.recode.specs.Converter.{WillBeKeptAfter, found_items, owed_after}
use Rattle.recode.specs.State.{State, characters_after}
use Rattle.recode.specs.Step.{IsNearlyDecided}
use Rattle.recode.specs.WrittenItems.{AreCounted}
use Rattle.recode.specs.calls.Chunk.{IsDoneWith}
use Rattle.recode.specs.calls.Text.{TargetState, text_items, IsEncoded}
use Rattle.recode.specs.calls.Verdict.{CanTell, VerdictIsKept}
use Rattle.recode.specs.Work.{TakesAtLeast, ended_count}
use Rattle.recode.specs.declared.converter.ConverterResult.{ConverterResult}
use Rattle.recode.specs.declared.converter.ConverterResult.TheVariants.{Found, InputEmpty, OutputFull}

-- text that waits to be encoded, as pieces: a byte for each character
abbrev pub pieces_of_text : List ℕ → List Piece
pieces_of_text [] = []
pieces_of_text (c ∷ t) = well_formed 1 (c ∷ []) ∷ pieces_of_text t

-- what the decoder's call reported, after the text that waits
abbrev pub reported : Option DecoderResult → List Piece
reported None = []
reported (Some decoded.InputEmpty) = []
reported (Some decoded.OutputFull) = []
reported (Some (decoded.Malformed a b)) = malformed a ∷ []

-- An engine between two turns: where the conversion stands, how the decoder's call ended whose text waits, if one
-- does, and the text that is left of it.
pub record Standing : Type 0 where
  pub state : State
  pub answer : Option DecoderResult
  pub text : List ℕ

-- the pieces that wait: they are decoded, and not yet encoded
abbrev pub waiting : Standing → List Piece
waiting c = pieces_of_text c.text ++ reported c.answer

-- the bytes of the pieces that wait, and those that the decoder holds
abbrev pub pending_in : Standing → ℕ
pending_in c = sizes (waiting c) + c.state.decoder.pending

-- what is owed for the bytes to come
abbrev pub owed : Standing → List ℕ → List Item
owed c = owed_after (waiting c) c.state

-- nothing was lost so far, and nothing will be
abbrev pub WillBeKept : Standing → List ℕ → Type 0
WillBeKept c = WillBeKeptAfter (waiting c) c.state

-- how many characters the whole text has with the bytes to come
abbrev pub characters_in : Standing → List ℕ → ℕ
characters_in c = characters_after (waiting c) c.state

-- the pending bytes are among those read, no more characters were passed than bytes, and no more lines than characters,
-- those that wait among them
pub record AreCountedSoundly (c : Standing) : Type 0 where
  pub index : c.state.counts.index + pending_in c ≤ c.state.counts.read
  pub bad : c.state.counts.bad ≤ c.state.counts.index + length c.text
  pub lost : c.state.counts.lost ≤ c.state.counts.index

-- Calls that are set aside: for the decoder's call to come, one; if text waits after which it comes, two more, for the
-- encoder's call that ends the text and the one that reads back what it wrote. If all is read after the text, its end has
-- three of its own (`end_count`).
abbrev pub spare_calls : Option DecoderResult → ℕ
spare_calls None = 1
spare_calls (Some decoded.InputEmpty) = 0
spare_calls (Some decoded.OutputFull) = 3
spare_calls (Some (decoded.Malformed a b)) = 3

-- Calls that are sure to come: the decoder's, one; if text waits before it, the encoder's too; and one more for the U+FFFD
-- of a malformed sequence. If all is read after the text, its end has two of its own.
abbrev pub due_calls : Option DecoderResult → ℕ
due_calls None = 1
due_calls (Some decoded.InputEmpty) = 0
due_calls (Some decoded.OutputFull) = 2
due_calls (Some (decoded.Malformed a b)) = 3

-- characters that were passed or wait
abbrev pub decoded_count : Standing → ℕ
decoded_count c = c.state.counts.index + length (text (waiting c))

-- malformed sequences that were logged or wait
abbrev pub bad_count : Standing → ℕ
bad_count c = c.state.counts.bad + malformed_count (waiting c)

-- The decoder took pieces; the set in force after what waits is that after what waited and these.
pub record TakesPieces (c c' : Standing) (bytes rest : List ℕ) : Type 0 where
  pub taken : List Piece
  pub rest_is : (r : List ℕ) → c.state.decoder.pieces (bytes ++ r) ≡ taken ++ c'.state.decoder.pieces (rest ++ r)
  pub set : last_set c.state.coding c'.state.set (text (waiting c')) ≡ last_set c.state.coding (last_set c.state.coding c.state.set (text (waiting c))) (text taken)
  pub index : decoded_count c' ≡ decoded_count c + length (text taken)

-- THE LAW. Of these bytes the rest is left, whatever comes after them (nothing after the last): what was owed is these
-- items, then what is owed now.
pub record TakesTurns (c c' : Standing) (last : Bool) (bytes rest : List ℕ) (items : List Item) (most least : ℕ) : Type 0 where
  pub counted : c'.state.counts.read + length rest ≡ c.state.counts.read + length bytes
  pub target : c'.state.coding ≡ c.state.coding
  pub policy : c'.state.policy ≡ c.state.policy
  pub sound : AreCountedSoundly c'
  pub lines : AreCounted c.state.counts c'.state.counts items
  pub source : (r : List ℕ) → (last ≡ true → r ≡ []) → c.state.source (bytes ++ r) ≡ c'.state.source (rest ++ r)
  pub characters : (r : List ℕ) → (last ≡ true → r ≡ []) → characters_in c (bytes ++ r) ≡ characters_in c' (rest ++ r)
  pub owes : (r : List ℕ) → (last ≡ true → r ≡ []) → owed c (bytes ++ r) ≡ items ++ owed c' (rest ++ r)
  pub verdict : (r : List ℕ) → (last ≡ true → r ≡ []) → WillBeKept c (bytes ++ r) ↔ WillBeKept c' (rest ++ r)
  pub calls : (r : List ℕ) → (last ≡ true → r ≡ []) → c'.state.counts.calls + c.state.counts.index + 3 * decoded_count c + 2 * length (owed c' (rest ++ r)) + spare_calls c'.answer
      ≤ c.state.counts.calls + c'.state.counts.index + 3 * decoded_count c' + 2 * length (owed c (bytes ++ r)) + spare_calls c.answer + most
  pub grows : c'.state.counts.calls < 2 ^ 64 - 1 → c.state.counts.calls ≤ c'.state.counts.calls
  pub least_calls : c'.state.counts.calls < 2 ^ 64 - 1 → c.state.counts.calls + c'.state.counts.lost + 3 * bad_count c' + due_calls c.answer + least ≤ c'.state.counts.calls + c.state.counts.lost + 3 * bad_count c + due_calls c'.answer
  pub advances : last ≡ false → TakesPieces c c' bytes rest

-- what has to hold of what waits: if all is read, no byte is handed in, and whether it is the last stays
abbrev pub IsOpenFor : Option DecoderResult → Standing → List ℕ → Bool → Type 0
IsOpenFor None c src last = (c.text ≡ []) × (c.state.finished ≡ false)
IsOpenFor (Some decoded.OutputFull) c src last = c.state.finished ≡ false
IsOpenFor (Some (decoded.Malformed a b)) c src last = (c.state.finished ≡ false) × (1 ≤ a) × (a ≤ 4) × (c.state.decoder.pending ≡ b)
IsOpenFor (Some decoded.InputEmpty) c src last =
    (src ≡ []) × (c.state.finished ≡ last) × IsNearlyDecided c.state.decoder
    × (last ≡ true → (c.state.decoder.pending ≡ 0) × (c.state.decoder.pieces [] ≡ []))

-- A call can be made with these bytes.
pub record CanGoOn (c : Standing) (src : List ℕ) (last : Bool) : Type 0 where
  pub sound : AreCountedSoundly c
  pub limit : c.state.counts.read + length src ≤ 2 ^ 48
  pub tells : CanTell c.state.verdict c.state.coding c.state.set c.text
  pub open_ : IsOpenFor c.answer c src last

-- whether the text that waits is the last
abbrev pub is_last_text : Option DecoderResult → Bool → Bool
is_last_text None last = false
is_last_text (Some decoded.InputEmpty) last = last
is_last_text (Some decoded.OutputFull) last = false
is_last_text (Some (decoded.Malformed a b)) last = false

-- after a call: if the text that waits is not the last, the decoder is asked again after it
abbrev pub settled : Option DecoderResult → Bool → Option DecoderResult
settled None last = None
settled (Some decoded.InputEmpty) true = Some decoded.InputEmpty
settled (Some decoded.InputEmpty) false = Some decoded.OutputFull
settled (Some decoded.OutputFull) last = Some decoded.OutputFull
settled (Some (decoded.Malformed a b)) last = Some (decoded.Malformed a b)

-- Between two calls of a converter, before all is written: the text that waits is the last if the end was read; otherwise
-- the decoder is asked again after it.
pub record IsBetweenCalls (c : Standing) (ended : Bool) : Type 0 where
  pub sound : AreCountedSoundly c
  pub tells : CanTell c.state.verdict c.state.coding c.state.set c.text
  pub finished : c.state.finished ≡ ended
  pub none : c.answer ≡ None → c.text ≡ []
  pub malformed : (a b : ℕ) → c.answer ≡ Some (decoded.Malformed a b) → (1 ≤ a) × (a ≤ 4) × (c.state.decoder.pending ≡ b)
  pub end : ended ≡ true → (c.answer ≡ Some decoded.InputEmpty) × (c.state.decoder.pending ≡ 0) × (length (c.state.decoder.pieces []) ≡ 0)
  pub more : ended ≡ false → is_last_text c.answer true ≡ false

-- 1 if all that was handed in is converted
abbrev pub end_count : ConverterResult → ℕ
end_count InputEmpty = 1
end_count OutputFull = 0
end_count (Found line) = 0

-- Why an engine's call ended: all is read and written; or fewer than 4 bytes are free; or something was found.
abbrev pub ConvertEndsWith : Standing → (unread : List ℕ) → (last : Bool) → (free : ℕ) → ConverterResult → Type 0
ConvertEndsWith c unread last free InputEmpty = (unread ≡ []) × (c.answer ≡ None) × (c.text ≡ []) × IsDoneWith c.state last
ConvertEndsWith c unread last free OutputFull = (free < 4) × CanGoOn c unread last
ConvertEndsWith c unread last free (Found line) = IsValid line × CanGoOn c unread last

-- what a turn found, if the call ends with it, as items
abbrev pub stop_items : Reference → Option ConverterResult → List Item
stop_items ref None = []
stop_items ref (Some result) = found_items ref result

-- 1 if the call ends here, and all that was handed in is converted
abbrev pub stop_count : Option ConverterResult → ℕ
stop_count None = 0
stop_count (Some result) = end_count result

-- 1 if text waits
abbrev pub waits : Option DecoderResult → ℕ
waits None = 0
waits (Some answer) = 1

-- ---- one call of the encoder

-- Of this text the rest is left to encode: what was to be written for it is these items, then what is to be written for
-- the rest. Of n texts that ended, calls of codecs were at most 2 each, with one for each character and 2 for each
-- item. They were at least one each, with one for each lost character.
pub record EncodesTurn (t t' : TargetState) (last : Bool) (text rest : List ℕ) (items : List Item) (n : ℕ) : Type 0 where
  pub lines : AreCounted t.counts t'.counts items
  pub owes : text_items t last text ≡ items ++ text_items t' last rest
  pub index : t'.counts.index + length rest ≡ t.counts.index + length text
  pub lost : t'.counts.lost ≤ t'.counts.index
  pub bad : t'.counts.bad ≡ t.counts.bad
  pub read : t'.counts.read ≡ t.counts.read
  pub target : t'.coding ≡ t.coding
  pub policy : t'.policy ≡ t.policy
  pub set : last ≡ false → last_set t.coding t.set text ≡ last_set t.coding t'.set rest
  pub verdict : VerdictIsKept t.coding last t.verdict t.set text t'.verdict t'.set rest
  pub calls : t'.counts.calls + t.counts.index + 2 * length (text_items t' last rest) ≤ t.counts.calls + t'.counts.index + 2 * length (text_items t last text) + 2 * n
  pub least : TakesAtLeast n t.counts t'.counts

-- One call of the encoder.
pub record EncodesOnce (t t' : TargetState) (last : Bool) (text rest : List ℕ) (items : List Item) (is_done : Bool) : Type 0 where
  pub encodes : EncodesTurn t t' last text rest items (ended_count is_done)
  pub more : is_done ≡ false → CanTell t'.verdict t'.coding t'.set rest
  pub done : is_done ≡ true → (rest ≡ []) × IsEncoded t' last
