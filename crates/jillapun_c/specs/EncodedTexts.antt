-- What a call of an encoder's handle does with a text.
use Rattle.std.specs.Prelude.{ℕ, Bool, false, List, drop, length}
use Rattle.std.specs.Str.{chars}
use Rattle.encoding_mem.specs.Conversions.{text_prefix}
use Rattle.jillapun_c.specs.Coders.{encoder_in}
use Rattle.jillapun_c.specs.EncoderCalls.{AnswersEncoder, EncodesAll, EncodesUpToLost}
use Rattle.jillapun_c.specs.TextParts.{IsToldOfPart}
use Rattle.jillapun_c.specs.declared.encoder.handle.EncoderHandle.{EncoderHandle}
use Rattle.jillapun_c.specs.declared.encoder_progress.EncoderProgress.{EncoderProgress}

-- a call that writes references, of a text that is read so, in units or in bytes
abbrev pub EncodesFrom : (is_units : Bool) (read_as : List ℕ → List ℕ) (before after : EncoderHandle) (text : List ℕ) (last : Bool) (dst dst' : List ℕ) → EncoderProgress → (status : ℕ) → Type 0
EncodesFrom is_units read_as before after text last dst dst' progress status = AnswersEncoder (encoder_in before) status
    (λ e. EncodesAll is_units e (encoder_in after) last (read_as text) (read_as (drop progress.read text)) (length text) dst dst' progress)

-- the same of a call that ends at each character without bytes
abbrev pub EncodesFromUpToLost : (is_units : Bool) (read_as : List ℕ → List ℕ) (before after : EncoderHandle) (text : List ℕ) (last : Bool) (dst dst' : List ℕ) → EncoderProgress → (status : ℕ) → Type 0
EncodesFromUpToLost is_units read_as before after text last dst dst' progress status = AnswersEncoder (encoder_in before) status
    (λ e. EncodesUpToLost is_units e (encoder_in after) last (read_as text) (read_as (drop progress.read text)) (length text) dst dst' progress)

-- a call that writes references, of bytes that begin with UTF-8: it encodes that, and tells that more is left
abbrev pub EncodesBefore : (before after : EncoderHandle) (bytes dst dst' : List ℕ) → EncoderProgress → (status : ℕ) → Type 0
EncodesBefore before after bytes dst dst' progress status = AnswersEncoder (encoder_in before) status (λ e. IsToldOfPart false progress
    (EncodesAll false e (encoder_in after) false (chars (text_prefix bytes)) (chars (drop progress.read (text_prefix bytes))) (length (text_prefix bytes)) dst dst'))

-- the same of a call that ends at each character without bytes
abbrev pub EncodesBeforeUpToLost : (before after : EncoderHandle) (bytes dst dst' : List ℕ) → EncoderProgress → (status : ℕ) → Type 0
EncodesBeforeUpToLost before after bytes dst dst' progress status = AnswersEncoder (encoder_in before) status (λ e. IsToldOfPart false progress
    (EncodesUpToLost false e (encoder_in after) false (chars (text_prefix bytes)) (chars (drop progress.read (text_prefix bytes))) (length (text_prefix bytes)) dst dst'))
