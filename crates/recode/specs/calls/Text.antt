-- What the calls for a text do: it is encoded, written and read back, and its lost characters are logged.
use Rattle.std.specs.Prelude.{◌≡◌, ℕ, ◌+◌, ◌^◌, ◌≤◌, List, [], length, Bool, true, false}
use Rattle.encoding_mem.specs.Coding.{Coding}
use Rattle.encoding_mem.specs.Items.{Item, whole_items}
use Rattle.encoding_mem.specs.declared.codec.form.EscapeState.{EscapeState}
use Rattle.encoding_mem.specs.declared.codec.form.EscapeState.TheVariants.{Ascii}
use Rattle.recode.specs.Policy.{reference_form}
use Rattle.recode.specs.calls.Verdict.{CanTell, IsToldAtEnd, VerdictView}
use Rattle.recode.specs.declared.job.Policy.{Policy}
use Rattle.recode.specs.declared.counts.Counts.{Counts}

-- What writes text, as contracts see it: the part of a state that does not speak of the decoder.
pub record TargetState : Type 0 where
  pub coding : Coding
  pub set : EscapeState
  pub policy : Policy
  pub verdict : VerdictView
  pub counts : Counts

-- A text can be encoded.
pub record CanEncode (t : TargetState) (text : List ℕ) : Type 0 where
  pub index : t.counts.index + length text ≤ 2 ^ 48
  pub lost : t.counts.lost ≤ t.counts.index
  pub tells : CanTell t.verdict t.coding t.set text

-- what is to be written for a text, after which nothing comes if it is the last
abbrev pub text_items : TargetState → Bool → List ℕ → List Item
text_items t last text = whole_items (reference_form t.policy) t.coding last t.set t.counts.index text

-- All of a text is encoded: more can be, or after the last nothing is pending.
pub record IsEncoded (t : TargetState) (last : Bool) : Type 0 where
  pub closed : last ≡ true → t.set ≡ Ascii
  pub tells : last ≡ false → CanTell t.verdict t.coding t.set []
  pub told : last ≡ true → IsToldAtEnd t.verdict
