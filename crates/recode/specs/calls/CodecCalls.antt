-- How a call of a codec ends, whatever the form of the text.
use Rattle.std.specs.Prelude.{◌≡◌, ℕ, ◌<◌, ◌⊎◌, Bool, true, false, List, []}
use Rattle.encoding_mem.specs.calls.Decoding.{DecoderState, Waits}
use Rattle.encoding_mem.specs.declared.codec.decoder_result.DecoderResult.{DecoderResult}
use Rattle.encoding_mem.specs.declared.codec.decoder_result.DecoderResult.TheVariants.{InputEmpty, OutputFull, Malformed}
use Rattle.encoding_mem.specs.declared.codec.encoder_result.EncoderResult.{EncoderResult}
use Rattle.encoding_mem.specs.declared.codec.encoder_result.EncoderResult.TheVariants.{Unmappable, InputEmpty as AllEncoded, OutputFull as RoomFull}

-- All is read, and no piece of what is pending is decided, after a last call nothing is pending; or the pivot is full,
-- with something written.
abbrev pub DecodeCallEndsWith : (after : DecoderState) (unread : List ℕ) (last : Bool) (written : ℕ) → DecoderResult → Type 0
DecodeCallEndsWith after unread last written InputEmpty =
    (unread ≡ []) × (((after.pending ≡ 0) × (after.pieces [] ≡ [])) ⊎ ((last ≡ false) × Waits after.pieces after.pending))
DecodeCallEndsWith after unread last written OutputFull = 0 < written
DecodeCallEndsWith after unread last written (Malformed a b) = Unit {0}

-- whether a call of an encoder has nothing more to do
abbrev pub writes_all : EncoderResult → Bool
writes_all AllEncoded = true
writes_all RoomFull = false
writes_all (Unmappable scalar) = false
