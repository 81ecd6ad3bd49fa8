-- UTF-8 is a target of at most four bytes a character.
use Rattle.std.proofs.Common.{ℕ, arith, lit≤}
use Rattle.std.proofs.lemmas.Str.{length-encode, len_utf8_bounds}
use Rattle.std.specs.Char.{encode_utf8}
use Rattle.encoding_mem.specs.Coding.{IsCoding, FitsNeed}
use Rattle.encoding_mem.specs.laws.Stateless.{stateless_laws}
use Rattle.encoding_mem.specs.Utf8Coding.{utf8_coding}
use Rattle.encoding_mem.specs.declared.codec.form.Form.TheVariants.{Mapped}

short_char : (c : ℕ) → FitsNeed 4 (Mapped (encode_utf8 c))
short_char c = record { short = let n = length-encode c in let b = len_utf8_bounds c in omega arith }

pub utf8_coding_laws : IsCoding 4 utf8_coding
utf8_coding_laws = stateless_laws 4 (λ c. Mapped (encode_utf8 c)) (lit≤ tt) short_char
