-- Hexadecimal digits of a number of at most six, written from the last to the first.
use Rattle.std.proofs.Common.{ℕ, ◌≡◌, ◌≢◌, ◌≤◌, ◌<◌, ◌+◌, ◌-◌, ◌*◌, ◌/◌, ◌%◌, ◌^◌, ◌∙◌, zero, suc, List, ◌∷◌, length, drop, set, ap, sym, arith, pow-suc, subst, true, length-set}
use Rattle.std.proofs.lemmas.Bool.{ne_eqb}
use Rattle.std.proofs.lemmas.List.{drop-set, drop_all}
use Rattle.std.specs.Fmt.{digit_glyph, digits, digits_onto}

-- the digit that is written next, in front of those that are
digit_before : (k rest : ℕ) (written : List ℕ) → rest / 16 ≢ 0
    → digits_onto (suc k) 16 true rest written ≡ digits_onto k 16 true (rest / 16) (digit_glyph true (rest % 16) ∷ written)
digit_before k rest written more = rw (ne_eqb (rest / 16) 0 more)

-- what is left of a number, of which the digits from start on are in the buffer
pub record IsPartWritten (number start rest : ℕ) (buffer : List ℕ) : Type 0 where
  pub size : length buffer ≡ 6
  pub some : 0 < start
  pub within : start ≤ 6
  pub small : rest < 16 ^ start
  pub written : digits_onto (start + 58) 16 true rest (drop start buffer) ≡ digits 16 true number

pub nothing_written : (number : ℕ) (buffer : List ℕ) → length buffer ≡ 6 → number < 16 ^ 6 → IsPartWritten number 6 number buffer
unfolding digits
nothing_written number buffer size small = record {
  size = size;
  some = omega arith;
  within = omega arith;
  small = small;
  written = ap (digits_onto 64 16 true number) (drop_all 6 buffer (omega (arith, size)));
}

-- a digit at k, in front of those after it
put_before : (k digit glyph : ℕ) (buffer : List ℕ) → k < length buffer → digit ≡ glyph → drop k (set buffer k digit) ≡ glyph ∷ drop (suc k) buffer
put_before k digit glyph buffer inside is = drop-set buffer k digit inside ∙ (λ i. is i ∷ drop (next i) buffer)
  where
    next : k + 1 ≡ suc k
    next = omega arith

one_more_at : (number k rest digit : ℕ) (buffer : List ℕ) → IsPartWritten number (suc (suc k)) rest buffer → rest / 16 ≢ 0 → digit ≡ digit_glyph true (rest % 16)
    → IsPartWritten number (suc k) (rest / 16) (set buffer (suc k) digit)
one_more_at number k rest digit buffer part more is =
    let power : 16 ^ suc (suc k) ≡ 16 ^ suc k * 16 = pow-suc 16 (suc k) in
    let put = put_before (suc k) digit _ buffer (omega (arith, part.size, part.within)) is in
    let fuel : suc (suc k + 58) ≡ suc (suc k) + 58 = omega arith in
    record {
      size = length-set buffer (suc k) digit ∙ part.size;
      some = omega arith;
      within = omega (arith, part.within);
      small = omega (arith, power, part.small);
      written = ap (digits_onto (suc k + 58) 16 true (rest / 16)) put
          ∙ sym (digit_before (suc k + 58) rest (drop (suc (suc k)) buffer) more)
          ∙ ap (λ n. digits_onto n 16 true rest (drop (suc (suc k)) buffer)) fuel
          ∙ part.written;
    }

pub one_more : (number start rest digit : ℕ) (buffer : List ℕ) → IsPartWritten number start rest buffer → rest / 16 ≢ 0 → digit ≡ digit_glyph true (rest % 16)
    → IsPartWritten number (start - 1) (rest / 16) (set buffer (start - 1) digit)
one_more number zero rest digit buffer part more is = absurd (omega (arith, part.some))
one_more number (suc zero) rest digit buffer part more is = absurd (omega (arith, part.small, more))
one_more number (suc (suc k)) rest digit buffer part more is =
    let same : suc k ≡ suc (suc k) - 1 = omega arith in
    subst (λ n. IsPartWritten number n (rest / 16) (set buffer n digit)) same (one_more_at number k rest digit buffer part more is)
