-- A target with one set.
use Rattle.std.specs.Prelude.{◌≡◌, ℕ, []}
use Rattle.encoding_mem.specs.Coding.{Coding}
use Rattle.encoding_mem.specs.declared.codec.form.Form.{Form}
use Rattle.encoding_mem.specs.declared.codec.form.EscapeState.{EscapeState}
use Rattle.encoding_mem.specs.declared.codec.form.EscapeState.TheVariants.{Ascii}

-- the target with one set and no escapes that has a given form for each character
abbrev pub stateless : (ℕ → Form) → Coding
stateless form = record { form = form; set = λ _ _. Ascii; escape = λ _ _. [] }

-- a target writes each character with ASCII as its set, and no escape has bytes
pub record HasOneSet (e : Coding) : Type 0 where
  pub set : (s : EscapeState) (c : ℕ) → e.set s c ≡ Ascii
  pub escape : (s s' : EscapeState) → e.escape s s' ≡ []
