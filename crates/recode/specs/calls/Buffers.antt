-- Which buffers are enough, and which are kept as they were.
use Rattle.std.specs.Prelude.{◌≡◌, ℕ, ◌<◌, ◌≤◌, Bool, true, false, length}
use Rattle.recode.specs.declared.job.Buffers.{Buffers}
use Rattle.recode.specs.declared.job.Pivot.{Pivot}
use Rattle.recode.specs.declared.job.Pivot.TheVariants.{Utf8, Utf16}

-- the pivot has room for any character: 4 bytes of UTF-8, or 2 units of UTF-16
abbrev pub HoldsAnyCharacter : Pivot → Type 0
HoldsAnyCharacter (Utf8 bytes) = 4 ≤ length bytes.now
HoldsAnyCharacter (Utf16 units) = 2 ≤ length units.now

-- whether a pivot is of UTF-16, with room in units, rather than of UTF-8, with room in bytes
abbrev pub is_wide : Pivot → Bool
is_wide (Utf8 bytes) = false
is_wide (Utf16 units) = true

-- how many bytes or units it has
abbrev pub capacity : Pivot → ℕ
capacity (Utf8 bytes) = length bytes.now
capacity (Utf16 units) = length units.now

-- a pivot of the kind and size that it was of, which still holds any character
pub record KeepsRoom (before after : Pivot) : Type 0 where
  pub roomy : HoldsAnyCharacter after
  pub kind : is_wide after ≡ is_wide before
  pub size : capacity after ≡ capacity before

-- enough for a step: input of 1 byte or more, output of 4 or more, and pivot and check of one form
-- that each hold any character
pub record AreEnough (b : Buffers) : Type 0 where
  pub input : 0 < length b.input.now
  pub pivot : HoldsAnyCharacter b.pivot
  pub output : 4 ≤ length b.output.now
  pub check : HoldsAnyCharacter b.check
  pub one_kind : is_wide b.pivot ≡ is_wide b.check

-- the buffers keep their sizes, and pivot and check their forms
pub record KeepSizes (before after : Buffers) : Type 0 where
  pub input : length after.input.now ≡ length before.input.now
  pub pivot : capacity after.pivot ≡ capacity before.pivot
  pub pivot_kind : is_wide after.pivot ≡ is_wide before.pivot
  pub output : length after.output.now ≡ length before.output.now
  pub check : capacity after.check ≡ capacity before.check
  pub check_kind : is_wide after.check ≡ is_wide before.check
