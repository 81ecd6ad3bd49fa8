-- Units of UTF-16 below D800 hex: they are the characters that they spell, and what is written for them.
use Rattle.std.proofs.Common.{◌≡◌, ℕ, ◌+◌, ◌-◌, ◌<◌, ◌≤◌, List, ◌++◌, length, take, drop, get_or, refl, sym, ◌∙◌, ap, arith, append_assoc}
use Rattle.std.specs.Char.Utf16.{utf16_lossy_chars}
use Rattle.std.proofs.lemmas.List.{take-append-drop, length-take-le}
use borrow.Rule.Slice.PartMut.{put_mid}
use Rattle.encoding_mem.specs.calls.Writing.{Adds}
use Rattle.encoding_mem.specs.laws.UnitRun.{plain_scalars, units_alone}
use Rattle.encoding_mem.proofs.ConversionLemmas.{scalars_back}
use Rattle.encoding_mem.proofs.DestinationLemmas.{take_into, drop_into}

-- each is its own character
pub units_spell : (us : List ℕ) → ((k : ℕ) → get_or us k 0 < 0xD800) → utf16_lossy_chars us ≡ us
units_spell us plain = ap utf16_lossy_chars (sym (units_alone us (λ k. omega (arith, plain k)))) ∙ scalars_back us (plain_scalars us plain)

-- What a call wrote into the part of a slice from an offset on, all after it kept, is added there.
pub adds_into : (xs ys text : List ℕ) (at n : ℕ) → at ≤ length xs → n ≤ length ys → take n ys ≡ text → drop n ys ≡ drop n (take (length xs - at) (drop at xs))
    → length ys ≡ length xs - at → Adds xs at text (put_mid at (length xs - at) xs ys) (at + n)
adds_into xs ys text at n within fits is behind size = record {
  counted = omega (arith, ap length is, length-take-le n ys fits);
  within = omega (arith, size);
  list = sym (take-append-drop (at + n) (put_mid at (length xs - at) xs ys))
      ∙ ap (λ l. l ++ drop (at + n) (put_mid at (length xs - at) xs ys)) (take_into at (length xs - at) n xs ys within fits ∙ ap (λ l. take at xs ++ l) is)
      ∙ ap (λ l. (take at xs ++ text) ++ l) (drop_into at (length xs - at) n xs ys within refl fits behind)
      ∙ append_assoc (take at xs) text (drop (at + n) xs);
}
