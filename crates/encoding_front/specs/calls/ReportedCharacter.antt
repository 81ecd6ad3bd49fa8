-- What is written for a character without bytes: its number, or that of U+FFFD.
use Rattle.std.specs.Prelude.{◌≡◌, ℕ, ◌⊎◌}
use Rattle.encoding_mem.specs.declared.codec.form.Form.{Form}
use Rattle.encoding_mem.specs.declared.codec.form.Form.TheVariants.{Mapped, Unmapped}

-- a character without bytes is reported as itself, or as U+FFFD
abbrev pub ReportsItself : ℕ → Form → Type 0
ReportsItself c (Mapped bs) = Unit {0}
ReportsItself c (Unmapped d) = (d ≡ c) ⊎ (d ≡ 0xFFFD)
