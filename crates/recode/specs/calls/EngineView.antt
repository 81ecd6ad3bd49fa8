-- An engine and its pivot, as contracts see them.
use Rattle.std.specs.Prelude.{◌≡◌, ℕ, ◌+◌, ◌-◌, ◌≤◌, Bool, List, [], Some, false, true, take, drop}
use Rattle.std.specs.Char.Utf16.{utf16_lossy_chars}
use Rattle.std.specs.Str.{all_scalars, chars, encode_utf8_all}
use Rattle.encoding_front.specs.calls.Stream.{DecoderView}
use Rattle.encoding_mem.specs.calls.EncoderRule.{EncoderParts}
use Rattle.encoding_mem.specs.declared.codec.decoder_result.DecoderResult.TheVariants.{OutputFull}
use Rattle.encoding_mem.specs.calls.Writing.{encode_utf16_all}
use Rattle.recode.specs.Converter.{ConverterView, saved_job}
use Rattle.recode.specs.State.{State}
use Rattle.recode.specs.calls.Buffers.{capacity}
use Rattle.recode.specs.calls.Text.{TargetState}
use Rattle.recode.specs.calls.Turns.{Standing, waiting}
use Rattle.recode.specs.calls.VerdictView.{verdict_view}
use Rattle.recode.specs.declared.engine.Engine.{Engine}
use Rattle.recode.specs.declared.job.Job.{Job}
use Rattle.recode.specs.declared.job.Pivot.{Pivot}
use Rattle.recode.specs.declared.job.Pivot.TheVariants.{Utf8, Utf16}
use Rattle.recode.specs.declared.job.Policy.{Policy}

-- the characters between two places of a pivot
abbrev pub chars_between : Pivot → (from to : ℕ) → List ℕ
chars_between (Utf8 bytes) from to = chars (take (to - from) (drop from bytes.now))
chars_between (Utf16 units) from to = utf16_lossy_chars (take (to - from) (drop from units.now))

-- between two places a pivot's elements are these characters, encoded
abbrev pub SpellsBetween : Pivot → (from to : ℕ) → List ℕ → Type 0
SpellsBetween (Utf8 bytes) from to t = take (to - from) (drop from bytes.now) ≡ encode_utf8_all t
SpellsBetween (Utf16 units) from to t = take (to - from) (drop from units.now) ≡ encode_utf16_all t

-- between two places a pivot has text
pub record HoldsBetween (p : Pivot) (from to : ℕ) : Type 0 where
  pub order : from ≤ to
  pub within : to ≤ capacity p
  pub scalars : all_scalars (chars_between p from to) ≡ true
  pub whole : SpellsBetween p from to (chars_between p from to)

-- where a conversion stands
abbrev pub engine_state : {D E : Type 0} → (D → DecoderView) → (E → EncoderParts) → Policy → Engine D E → State
engine_state view parts policy c =
    record { decoder = (view c.decoder).state; finished = (view c.decoder).finished; source = (view c.decoder).source; coding = (parts c.encoder).coding; set = (parts c.encoder).set; policy = policy; verdict = verdict_view view c.verdict; counts = c.counts }

-- the part of it that does not speak of the decoder
abbrev pub engine_target : {D E : Type 0} → (D → DecoderView) → (E → EncoderParts) → Policy → Engine D E → TargetState
engine_target view parts policy c =
    record { coding = (parts c.encoder).coding; set = (parts c.encoder).set; policy = policy; verdict = verdict_view view c.verdict; counts = c.counts }

-- with what waits in the pivot
abbrev pub standing : {D E : Type 0} → (D → DecoderView) → (E → EncoderParts) → Policy → Engine D E → Pivot → Standing
standing view parts policy c pivot = record { state = engine_state view parts policy c; answer = c.answer; text = chars_between pivot c.from c.to }

-- an engine after the line of a malformed sequence: U+FFFD waits, which ends at this place of the pivot
abbrev pub replacing : {D E : Type 0} → Engine D E → (to : ℕ) → Engine D E
replacing c to = record c { counts = record c.counts { bad = c.counts.bad + 1 }; verdict = record c.verdict { faithful = false }; answer = Some OutputFull; from = 0; to = to }

-- a pivot of UTF-8 over these bytes
abbrev pub over_text : List ℕ → Pivot
over_text bytes = Utf8 (record { ref_ptr = (0, 0); ghost_name = 0; now = bytes })

-- the bytes of a pivot of UTF-8
abbrev pub pivot_bytes : Pivot → List ℕ
pivot_bytes (Utf8 bytes) = bytes.now
pivot_bytes (Utf16 units) = []

-- a converter with these parts
abbrev pub converter_of_parts : {D E : Type 0} → (D → DecoderView) → (E → EncoderParts) → Job → Engine D E → (bytes : List ℕ) → (ended over : Bool) → ConverterView
converter_of_parts view parts job engine bytes ended over =
    let c = standing view parts job.policy engine (over_text bytes) in record { job = saved_job job; lists = job.tables.now; state = c.state; waiting = waiting c; ended = ended; over = over }
