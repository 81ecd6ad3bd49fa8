-- The text that a pivot holds, whichever its form.
use Rattle.std.specs.Prelude.{◌≡◌, ℕ, ◌≤◌, ◌++◌, List, Bool, true, false, length, take}
use Rattle.std.specs.Str.{chars, all_scalars, encode_utf8_all}
use Rattle.std.specs.Char.Utf16.{utf16_lossy_chars}
use Rattle.encoding_mem.specs.calls.Writing.{encode_utf16_all}
use Rattle.recode.specs.declared.job.Pivot.{Pivot}
use Rattle.recode.specs.declared.job.Pivot.TheVariants as InPivot
use Rattle.recode.specs.declared.codec_calls.PivotText.{PivotText}
use Rattle.recode.specs.declared.codec_calls.PivotText.TheVariants.{Utf8, Utf16}

-- the characters of a text in a pivot
abbrev pub pivot_chars : PivotText → List ℕ
pivot_chars (Utf8 text) = chars text.now
pivot_chars (Utf16 units) = utf16_lossy_chars units.now

-- whether a text in a pivot is of UTF-16
abbrev pub is_in_units : PivotText → Bool
is_in_units (Utf8 text) = false
is_in_units (Utf16 units) = true

-- how many bytes or units a text has
abbrev pub element_count : PivotText → ℕ
element_count (Utf8 text) = length text.now
element_count (Utf16 units) = length units.now

-- the text's bytes or units are these characters, encoded: no surrogate stands alone
abbrev pub Spells : PivotText → List ℕ → Type 0
Spells (Utf8 text) t = text.now ≡ encode_utf8_all t
Spells (Utf16 units) t = units.now ≡ encode_utf16_all t

-- the text is its characters and nothing else: no surrogate stands alone
pub record IsWholeText (p : PivotText) : Type 0 where
  pub scalars : all_scalars (pivot_chars p) ≡ true
  pub whole : Spells p (pivot_chars p)

-- the characters of a text begin with those of another
abbrev pub BeginsWith : PivotText → PivotText → Type 0
BeginsWith p prefix = (more : List ℕ) × (pivot_chars p ≡ pivot_chars prefix ++ more)

-- a text of the same form is left after another
pub record IsLeftBehind (p prefix rest : PivotText) : Type 0 where
  pub parts : pivot_chars p ≡ pivot_chars prefix ++ pivot_chars rest
  pub text : IsWholeText rest
  pub form : is_in_units rest ≡ is_in_units p

-- a text is cut into two, of its form
pub record IsCutInto (p read rest : PivotText) : Type 0 where
  pub parts : pivot_chars p ≡ pivot_chars read ++ pivot_chars rest
  pub read_text : IsWholeText read
  pub rest_text : IsWholeText rest
  pub read_form : is_in_units read ≡ is_in_units p
  pub rest_form : is_in_units rest ≡ is_in_units p

-- the first n elements of a pivot are a text in the pivot's form
abbrev pub Holds : Pivot → ℕ → List ℕ → Type 0
Holds (InPivot.Utf8 bytes) n text = (n ≤ length bytes.now) × (take n bytes.now ≡ encode_utf8_all text)
Holds (InPivot.Utf16 units) n text = (n ≤ length units.now) × (take n units.now ≡ encode_utf16_all text)

-- the first n bytes or units of a pivot are well-formed UTF-8 or UTF-16, by the pivot's form
abbrev pub HoldsText : Pivot → ℕ → Type 0
HoldsText pivot n = (text : List ℕ) × (all_scalars text ≡ true) × Holds pivot n text
