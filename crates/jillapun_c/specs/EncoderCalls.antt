-- What a call of an encoder's handle does.
use Rattle.std.specs.Prelude.{◌≡◌, ◌≢◌, ◌-◌, ◌≤◌, ℕ, Bool, false, List, length, take, Option, MatchOption, None, Some, unwrap_or}
use Rattle.encoding_mem.specs.calls.EncoderRule.{WritesBytes}
use Rattle.encoding_mem.specs.declared.codec.encoder_result.EncoderResult.{EncoderResult}
use Rattle.encoding_mem.specs.declared.codec.encoder_result.EncoderResult.TheVariants as raw_
use Rattle.encoding_tables.specs.IndexLists.{IndexLists}
use Rattle.encoding_front.specs.Encodings.{output_encoding_of}
use Rattle.encoding_front.specs.calls.Encoder.{Encoded, EncoderState, Replaces, new_state, room_with_reference, room_without_reference}
use Rattle.encoding_front.specs.declared.coder_result.CoderResult.{CoderResult}
use Rattle.encoding_front.specs.declared.coder_result.CoderResult.TheVariants as text_
use Rattle.jillapun_c.specs.DecoderCalls.{text_outcome}
use Rattle.jillapun_c.specs.EncodingNumbers.{encoding_at}
use Rattle.jillapun_c.specs.HeldTables.{held_lists}
use Rattle.jillapun_c.specs.Openings.{IfReady}
use Rattle.jillapun_c.specs.declared.encoder_progress.EncoderProgress.{EncoderProgress}
use Rattle.jillapun_c.specs.declared.status.TheConstants.{CLOSED, INPUT_EMPTY, OK, OUTPUT_FULL, REFUSED, UNKNOWN, UNMAPPABLE}

-- an encoder of a new stream is made, into the output encoding of the one with that number, if there is one, and if the
-- tables have each index that the output encoding needs
abbrev pub MakesEncoder : (tables : Option IndexLists) (number : ℕ) (new : Option EncoderState) (status : ℕ) → Type 0
MakesEncoder tables number new status = MatchOption (encoding_at number) (status ≡ UNKNOWN)
    (λ e. IfReady (held_lists tables) (output_encoding_of e) ((status ≡ OK) × (new ≡ Some (new_state (held_lists tables) e))) status)

-- an outcome as it is reported: its number, and the character that has no bytes
abbrev pub IsEncoderOutcome : EncoderResult → (number scalar : ℕ) → Type 0
IsEncoderOutcome raw_.InputEmpty number scalar = (number ≡ INPUT_EMPTY) × (scalar ≡ 0)
IsEncoderOutcome raw_.OutputFull number scalar = (number ≡ OUTPUT_FULL) × (scalar ≡ 0)
IsEncoderOutcome (raw_.Unmappable c) number scalar = (number ≡ UNMAPPABLE) × (scalar ≡ c)

-- What a call did that writes a reference for each character without bytes, and why it ended: of a text, of which rest
-- is left, and which has so many bytes or units.
pub record EncodesAll (is_units : Bool) (before : EncoderState) (after : Option EncoderState) (last : Bool) (text rest : List ℕ) (size : ℕ) (old new : List ℕ) (progress : EncoderProgress) : Type 0 where
  pub encoder : EncoderState
  pub held : after ≡ Some encoder
  pub outcome : CoderResult
  pub told : progress.outcome ≡ text_outcome outcome
  pub no_scalar : progress.scalar ≡ 0
  pub wrote : WritesBytes old new progress.written
  pub call : Replaces before last outcome text (take progress.written new) encoder rest progress.had_unmappable (length new)
  pub enough : room_with_reference before.encoding is_units size ≤ length old → progress.had_unmappable ≡ false → outcome ≢ text_.OutputFull

-- The same of a call that ends at each character without bytes.
pub record EncodesUpToLost (is_units : Bool) (before : EncoderState) (after : Option EncoderState) (last : Bool) (text rest : List ℕ) (size : ℕ) (old new : List ℕ) (progress : EncoderProgress) : Type 0 where
  pub encoder : EncoderState
  pub held : after ≡ Some encoder
  pub outcome : EncoderResult
  pub told : IsEncoderOutcome outcome progress.outcome progress.scalar
  pub none_replaced : progress.had_unmappable ≡ false
  pub wrote : WritesBytes old new progress.written
  pub call : Encoded before last outcome text (take progress.written new) encoder rest (length new - progress.written)
  pub enough : room_without_reference before.encoding is_units size ≤ length old → outcome ≢ raw_.OutputFull

-- What the status of a query says: there is no encoder, or its number is reported, which is SIZE_MAX if no length can say it.
abbrev pub TellsNumber : Option EncoderState → (EncoderState → Option ℕ) → (length status : ℕ) → Type 0
TellsNumber None room length status = status ≡ CLOSED
TellsNumber (Some e) room length status = (status ≡ OK) × (length ≡ unwrap_or (room e) REFUSED)

-- What the status of a call on an encoder says: the handle holds none, or all was done and this holds of it.
pub record AnswersEncoder (held : Option EncoderState) (status : ℕ) (Then : EncoderState → Type 0) : Type 0 where
  pub closed : held ≡ None → status ≡ CLOSED
  pub done : (e : EncoderState) → held ≡ Some e → (status ≡ OK) × Then e
