-- The longest prefix that fits into units of UTF-16 is one of what three bytes for each unit hold.
use Rattle.std.proofs.Common.{◌≡◌, ℕ, ◌*◌, ◌<◌, ◌≤◌, ◌⊎◌, inl, inr, List, [], ◌∷◌, length, take, sym, ap, subst, arith, encode_utf8_all, length-append}
use Rattle.std.specs.Str.{IsUtf8, chars}
use Rattle.std.specs.Char.{encode_utf8, len_utf8}
use Rattle.std.specs.Char.Escape.{encode_utf16}
use Rattle.std.proofs.lemmas.Bool.{cases_lt}
use Rattle.std.proofs.lemmas.Bool.Decides.{nat_tests}
use Rattle.std.proofs.lemmas.List.{length-take, length-take-le, take-take}
use Rattle.std.proofs.lemmas.Str.{encodes-chars, length-encode}
use Rattle.encoding_mem.specs.Conversions.{IsLongest, text_in_utf16}
use Rattle.encoding_mem.specs.calls.Writing.{encode_utf16_all, len_utf16}
use Rattle.encoding_mem.specs.laws.Writing.{length-encode_utf16}

three_a_unit : (c : ℕ) → len_utf8 c ≤ 3 * len_utf16 c
three_a_unit c = grind (arith, nat_tests)

all_three : (cs : List ℕ) → length (encode_utf8_all cs) ≤ 3 * length (encode_utf16_all cs)
all_three [] = omega arith
all_three (c ∷ cs) =
    omega (
      arith,
      all_three cs,
      three_a_unit c,
      length-append (encode_utf8 c) (encode_utf8_all cs),
      length-append (encode_utf16 c) (encode_utf16_all cs),
      length-encode c,
      length-encode_utf16 c,
    )

three_each : (bs : List ℕ) → IsUtf8 bs → length bs ≤ 3 * length (text_in_utf16 bs)
three_each bs u = omega (arith, all_three (chars bs), ap length (encodes-chars bs u))

pub longest_of_cut : (src : List ℕ) (room end n : ℕ) → (end ≡ length src) ⊎ ((end ≡ 3 * room) × (end ≤ length src))
    → IsLongest (λ i. IsUtf8 (take i (take end src))) (λ i. length (text_in_utf16 (take i (take end src)))) (length (take end src)) room n
    → IsLongest (λ i. IsUtf8 (take i src)) (λ i. length (text_in_utf16 (take i src))) (length src) room n
longest_of_cut src room end n ends h =
    let size : length (take end src) ≡ end = length-take-le end src (elim ends [ inl all ↦ omega (arith, all) | inr cut ↦ cut.1 ]) in
    let same : take n (take end src) ≡ take n src = take-take n end src (omega (arith, size, h.within)) in
    record {
      within = omega (arith, h.within, length-take end src);
      whole = subst IsUtf8 same h.whole;
      fits = subst (λ l. length (text_in_utf16 l) ≤ room) same h.fits;
      longest = λ i more most text. elim (cases_lt end i) [
        | inr within ↦ (let cut : take i (take end src) ≡ take i src = take-take i end src within in
            subst (λ l. room < length (text_in_utf16 l)) cut (h.longest i more (omega (arith, within, size)) (subst IsUtf8 (sym cut) text)))
        | inl behind ↦ elim ends [
          | inl all ↦ absurd (omega (arith, all, behind, most))
          | inr three ↦ omega (arith, three.0, behind, three_each (take i src) text, length-take-le i src most)
        ]
      ];
    }

-- and what it stands for
pub cut_text : (src : List ℕ) (end n : ℕ) → n ≤ length (take end src) → take n (take end src) ≡ take n src
cut_text src end n within = take-take n end src (omega (arith, within, length-take end src))
