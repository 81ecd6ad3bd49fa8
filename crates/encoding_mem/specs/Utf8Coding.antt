-- UTF-8 as a target: each scalar has bytes, and there is one set.
use Rattle.std.specs.Prelude.{◌≡◌, ℕ, ◌<◌, List, [], ◌∷◌, ◌++◌}
use Rattle.std.specs.Char.{encode_utf8, len_utf8}
use Rattle.std.specs.Str.{encode_utf8_all}
use Rattle.encoding_mem.specs.Coding.{Coding}
use Rattle.encoding_mem.specs.Stateless.{stateless}
use Rattle.encoding_mem.specs.declared.codec.form.Form.TheVariants.{Mapped}

-- UTF-8 as a target: the form of each character is its bytes in UTF-8, and there is one set
abbrev pub utf8_coding : Coding
utf8_coding = stateless (λ c. Mapped (encode_utf8 c))

-- the next character of a text, if there is one, has more bytes in UTF-8 than are free
abbrev pub NextIsTooLong : List ℕ → ℕ → Type 0
NextIsTooLong [] free = Unit {0}
NextIsTooLong (c ∷ t) free = free < len_utf8 c

-- what was written is a prefix of a text in UTF-8, and the next character, if there is one, has
-- more bytes than are still free
pub record ReadsLongest (text written rest : List ℕ) (free : ℕ) : Type 0 where
  pub prefix : List ℕ
  pub split : text ≡ prefix ++ rest
  pub bytes : written ≡ encode_utf8_all prefix
  pub longest : NextIsTooLong rest free
