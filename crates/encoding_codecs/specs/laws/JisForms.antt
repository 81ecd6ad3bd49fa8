-- The targets Shift_JIS and EUC-JP write at most two bytes a character, and what their decoders give are scalars.
use Rattle.std.proofs.Common.{◌≡◌, ℕ, ◌≤◌, ◌<◌, Bool, true, false, cond, List, [], ◌∷◌, length, lit≤, arith, refl, Option, None, Some, inr}
use Rattle.std.specs.Prelude.{IfSome}
use Rattle.std.specs.Char.{IsScalar}
use Rattle.std.specs.Option.{option_map, option_or}
use Rattle.encoding_mem.specs.Coding.{IsCoding, FitsNeed, form_of_bytes}
use Rattle.encoding_mem.specs.laws.Stateless.{stateless_laws, short_none}
use Rattle.encoding_mem.specs.Stateless.{stateless}
use Rattle.encoding_mem.specs.laws.Utf8.{scalar_from, range_from}
use Rattle.encoding_codecs.specs.JisForms.{is_katakana_byte, katakana_of_byte}
use Rattle.encoding_codecs.specs.declared.lead_byte_rule.FirstByte.{FirstByte}
use Rattle.encoding_codecs.specs.declared.two_byte.PairValue.{PairValue}
use Rattle.encoding_codecs.specs.calls.TwoByteRule.{IsFirstByte, IsPairValue}

-- two bytes at most, if there are some
pub record AreFew (o : Option (List ℕ)) : Type 0 where
  pub few : IfSome o (λ bytes. length bytes ≤ 2)

pub few_one : {b : ℕ} → AreFew (Some (b ∷ []))
few_one = record { few = lit≤ tt }

pub few_two : {a b : ℕ} → AreFew (Some (a ∷ b ∷ []))
few_two = record { few = lit≤ tt }

pub few_none : AreFew None
few_none = record { few = tt }

pub few_if : (t : Bool) {x y : Option (List ℕ)} → AreFew x → AreFew y → AreFew (cond t x y)
few_if true h k = h
few_if false h k = k

pub few_or : (x y : Option (List ℕ)) → AreFew x → AreFew y → AreFew (option_or x y)
few_or None y h k = k
few_or (Some bytes) y h k = h

pub few_map : (bytes : ℕ → List ℕ) (o : Option ℕ) → ((p : ℕ) → length (bytes p) ≤ 2) → AreFew (option_map bytes o)
few_map bytes None short = few_none
few_map bytes (Some p) short = record { few = short p }

short_form : (c : ℕ) (o : Option (List ℕ)) → AreFew o → FitsNeed 2 (form_of_bytes c o)
short_form c None h = short_none
short_form c (Some bytes) h = record { short = h.few }

pub two_byte_laws : (bytes : ℕ → Option (List ℕ)) → ((c : ℕ) → AreFew (bytes c)) → IsCoding 2 (stateless (λ c. form_of_bytes c (bytes c)))
two_byte_laws bytes few = stateless_laws 2 (λ c. form_of_bytes c (bytes c)) (lit≤ tt) (λ c. short_form c (bytes c) (few c))

-- ---- characters

-- halfwidth katakana are scalars of the basic plane
pub katakana_is_char : (b : ℕ) → is_katakana_byte b ≡ true → IsScalar (katakana_of_byte b) × (katakana_of_byte b < 0x10000)
katakana_is_char b is =
    let range = range_from 0xA1 0xDF b is in
    (scalar_from (katakana_of_byte b) (inr (omega arith, omega (arith, range.1))), omega (arith, range.1))

-- by a choice of two
pub first_if : (t : Bool) (x y : FirstByte) → (t ≡ true → IsFirstByte x) → (t ≡ false → IsFirstByte y) → IsFirstByte (cond t x y)
first_if true x y h k = h refl
first_if false x y h k = k refl

pub pair_if : (t : Bool) (x y : PairValue) → (t ≡ true → IsPairValue x) → (t ≡ false → IsPairValue y) → IsPairValue (cond t x y)
pair_if true x y h k = h refl
pair_if false x y h k = k refl
