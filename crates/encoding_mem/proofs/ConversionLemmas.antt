-- What is converted and converted back.
use Rattle.std.proofs.Common.{◌≡◌, ℕ, ◌<◌, ◌≤◌, inl, inr, true, List, [], ◌∷◌, ◌++◌, refl, sym, ◌∙◌, ap, subst, arith, encode_utf8_all}
use Rattle.std.specs.Option.{unwrap_or}
use Rattle.std.specs.Char.Escape.{encode_utf16}
use Rattle.std.specs.Char.Utf16.{utf16_lossy_chars}
use Rattle.std.specs.Str.{chars, IsUtf8, all_scalars}
use Rattle.std.proofs.Math.Utf8.{scalar, scalar_cases}
use Rattle.std.proofs.str.Utf16.{lone_unit_char_low, lone_unit_char_high}
use Rattle.std.proofs.lemmas.Bool.{cases_lt, lt-ltb, le-ltb, and_parts}
use Rattle.std.proofs.lemmas.Str.{chars-encodes, encodes-chars, scalars-chars}
use Rattle.encoding_mem.specs.Conversions.{text_in_utf16, units_in_utf8}
use Rattle.encoding_mem.specs.Latin1.{AllLatin1, IsLatin1Text}
use Rattle.encoding_mem.specs.calls.Writing.{encode_utf16_all}
use Rattle.encoding_mem.proofs.DestinationLemmas.{bytes_are_scalars}
use Rattle.encoding_mem.proofs.UnitPrefixLemmas.{char_of, one, two}
use Rattle.encoding_mem.proofs.Utf16Lemmas.{no_units}

pub latin1_chars : (bytes : List ℕ) → AllLatin1 bytes → chars (encode_utf8_all bytes) ≡ bytes
latin1_chars bytes low = chars-encodes bytes (bytes_are_scalars bytes (λ k. omega (arith, low k)))

pub latin1_text : (bytes : List ℕ) → AllLatin1 bytes → IsLatin1Text (encode_utf8_all bytes)
latin1_text bytes low = ((bytes, (bytes_are_scalars bytes (λ k. omega (arith, low k)), refl)), subst AllLatin1 (sym (latin1_chars bytes low)) low)

plain : (c : ℕ) → scalar c ≡ true → c < 0x1_0000 → (char_of c ≡ c) × ((v : ℕ) → (0xD800 ≤ c) → c < 0xDC00 → ⊥)
plain c is small = elim (scalar_cases c is) [
  | inl low ↦ (ap (λ o. unwrap_or o 0xFFFD) (lone_unit_char_low c low), λ v h k. absurd (omega arith))
  | inr high ↦ (ap (λ o. unwrap_or o 0xFFFD) (lone_unit_char_high c high.0), λ v h k. absurd (omega arith))
]

scalar_back : (c : ℕ) (units : List ℕ) → scalar c ≡ true → utf16_lossy_chars (encode_utf16 c ++ units) ≡ c ∷ utf16_lossy_chars units
scalar_back c units is = elim (cases_lt c 0x1_0000) [
  | inl small ↦ (let p = plain c is small in
      rw (lt-ltb c 0x1_0000 small) (one c units (λ q. p.1 0 q.0.0 (omega (arith, q.0))) ∙ ap (λ x. x ∷ utf16_lossy_chars units) p.0))
  | inr great ↦ (let below : c < 0x11_0000 = elim (scalar_cases c is) [ inl low ↦ omega arith | inr high ↦ omega (arith, high.1) ] in
      rw (le-ltb c 0x1_0000 great) (two _ _ units ((omega arith, omega arith), (omega arith, omega arith)) ∙ ap (λ x. x ∷ utf16_lossy_chars units) (omega arith)))
]

pub scalars_back : (cs : List ℕ) → all_scalars cs ≡ true → utf16_lossy_chars (encode_utf16_all cs) ≡ cs
scalars_back [] h = no_units [] refl
scalars_back (c ∷ cs) h =
    let parts = and_parts (scalar c) (all_scalars cs) h in
    scalar_back c (encode_utf16_all cs) parts.0 ∙ ap (λ l. c ∷ l) (scalars_back cs parts.1)

pub text_back : (text : List ℕ) → IsUtf8 text → units_in_utf8 (text_in_utf16 text) ≡ text
text_back text utf8 = ap encode_utf8_all (scalars_back (chars text) (scalars-chars text utf8)) ∙ encodes-chars text utf8
