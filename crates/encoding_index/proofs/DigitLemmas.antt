-- Digits at the start of some bytes, counted and read in one walk.
use Rattle.std.proofs.Common.{◌≡◌, ℕ, zero, suc, ◌+◌, ◌-◌, ◌*◌, ◌^◌, ◌<◌, ◌≤◌, Bool, true, false, List, [], ◌∷◌, length, take, drop, get_or, refl, sym, ap, ◌∙◌, arith, None, Some, inl, inr}
use Rattle.std.specs.Char.{digit_value, is_ascii_digit}
use Rattle.std.specs.Str.Parse.{digits_value, AllDigits}
use Rattle.std.specs.List.{prefix_len}
use Rattle.std.proofs.lemmas.Bool.{cases_lt, false≢true}
use Rattle.std.proofs.lemmas.Bool.Decides.{nat_tests}
use Rattle.std.proofs.lemmas.List.{length-take}
use Rattle.std.proofs.lemmas.List.Sums.{prefix_len_is, prefix_len_stops}
use Rattle.std.proofs.lemmas.Int.Digits.{digits_value-lt, digits_value_more}
use Rattle.std.proofs.Math.Nat.{pow-le-pow_right}
use Rattle.encoding_index.specs.IndexLine.{is_decimal_digit, is_hex_digit, number_in}
use Rattle.encoding_index.specs.laws.Digits.{hex_or_none, HaveDigits}

pub digit_small : (b : ℕ) → is_decimal_digit b ≡ true → digit_value b < 10
digit_small b digit = grind (arith, nat_tests)

pub hex_digit_small : (b : ℕ) → is_hex_digit b ≡ true → digit_value b < 16
hex_digit_small b digit = grind (arith, nat_tests)

pub is_digit_by : (b : ℕ) → is_ascii_digit b ≡ true → is_decimal_digit b ≡ true
is_digit_by b digit = grind (arith, nat_tests)

pub no_digit_by : (b : ℕ) → is_ascii_digit b ≡ false → is_decimal_digit b ≡ false
no_digit_by b other = grind (arith, nat_tests)

pub digit_value_is : (b : ℕ) → is_decimal_digit b ≡ true → b - 0x30 ≡ digit_value b
digit_value_is b digit = grind (arith, nat_tests)

pub hex_is : (b v : ℕ) → v ≡ hex_or_none b → is_hex_digit b ≡ true → v ≡ digit_value b
hex_is b v is hex = rw hex at is

all_digits : (radix : ℕ) (p : ℕ → Bool) → ((b : ℕ) → p b ≡ true → digit_value b < radix) → (bytes : List ℕ) (n : ℕ) → ((k : ℕ) → k < n → p (get_or bytes k 0) ≡ true) → n ≤ length bytes
    → AllDigits radix (take n bytes)
all_digits radix p small bytes zero passes within = tt
all_digits radix p small [] (suc n) passes within = absurd (omega arith)
all_digits radix p small (b ∷ bytes) (suc n) passes within = (small b (passes 0 (omega arith)), all_digits radix p small bytes n (λ k below. passes (suc k) (omega arith)) (omega arith))

below_power : (radix most : ℕ) (digits : List ℕ) → 0 < radix → AllDigits radix digits → length digits ≤ most → digits_value radix digits < radix ^ most
below_power radix most digits some all short =
    let own = digits_value-lt radix digits all in
    let wider = pow-le-pow_right {n = radix} some {i = length digits} {j = most} short in
    omega arith

-- so few digits write no greater number
counted_below : (radix most : ℕ) (p : ℕ → Bool) → ((b : ℕ) → p b ≡ true → digit_value b < radix) → 0 < radix → (bytes : List ℕ) (count value : ℕ) → HaveDigits p radix bytes count value → count ≤ most
    → value < radix ^ most
counted_below radix most p small some bytes count value counted few =
    let within : count ≤ length bytes = counted.within in
    let short : length (take count bytes) ≤ most = omega (arith, length-take count bytes) in
    let below = below_power radix most (take count bytes) some (all_digits radix p small bytes count counted.passes counted.within) short in
    omega (arith, counted.value_is, below)

pub pointer_below : (most : ℕ) (bytes : List ℕ) (count value : ℕ) → HaveDigits is_decimal_digit 10 bytes count value → count ≤ most → value < 10 ^ most
pointer_below most = counted_below 10 most is_decimal_digit digit_small (omega arith)

pub code_below : (most : ℕ) (bytes : List ℕ) (count value : ℕ) → HaveDigits is_hex_digit 16 bytes count value → count ≤ most → value < 16 ^ most
code_below most = counted_below 16 most is_hex_digit hex_digit_small (omega arith)

pub none_counted : (p : ℕ → Bool) (radix : ℕ) (bytes : List ℕ) → HaveDigits p radix bytes 0 0
none_counted p radix bytes = record { within = omega arith; passes = λ k below. absurd (omega arith); value_is = refl }

pub one_counted : (p : ℕ → Bool) (radix : ℕ) (bytes : List ℕ) (count value : ℕ) → HaveDigits p radix bytes count value → count < length bytes → p (get_or bytes count 0) ≡ true
    → HaveDigits p radix bytes (count + 1) (value * radix + digit_value (get_or bytes count 0))
one_counted p radix bytes count value counted within digit = record {
  within = omega arith;
  passes = λ k below. elim (cases_lt k count) [
    | inl before ↦ counted.passes k before
    | inr behind ↦
        let same : k ≡ count = omega arith in
        rw same digit
  ];
  value_is =
      let so_far = ap (λ value. value * radix + digit_value (get_or bytes count 0)) counted.value_is in
      so_far ∙ sym (digits_value_more radix bytes count within);
}

-- no more of them stand there
counted_all : (p : ℕ → Bool) (radix : ℕ) (bytes : List ℕ) (count value : ℕ) → HaveDigits p radix bytes count value → (count < length bytes → p (get_or bytes count 0) ≡ false) → prefix_len p bytes ≡ count
counted_all p radix bytes count value counted ends = prefix_len_is p bytes count 0 counted.within counted.passes ends

counted_some : (p : ℕ → Bool) (radix : ℕ) (bytes : List ℕ) (count value : ℕ) → HaveDigits p radix bytes count value → count ≤ prefix_len p bytes
counted_some p radix bytes count value counted = elim (cases_lt (prefix_len p bytes) count) [
  | inl fewer ↦ absurd (false≢true (sym (prefix_len_stops p bytes 0 (omega (arith, counted.within))) ∙ counted.passes (prefix_len p bytes) fewer))
  | inr enough ↦ enough
]

pub number_counted : (p : ℕ → Bool) (radix least most : ℕ) (bytes : List ℕ) (count value : ℕ) → HaveDigits p radix bytes count value → least ≤ count → count ≤ most
    → (count < length bytes → p (get_or bytes count 0) ≡ false) → number_in radix least most (prefix_len p bytes) bytes ≡ Some (value, drop count bytes)
number_counted p radix least most bytes count value counted low high ends =
    rw (counted_all p radix bytes count value counted ends, ← counted.value_is) (grind (arith, nat_tests))

pub too_few_counted : (p : ℕ → Bool) (radix least most : ℕ) (bytes : List ℕ) (count value : ℕ) → HaveDigits p radix bytes count value → count < least
    → (count < length bytes → p (get_or bytes count 0) ≡ false) → number_in radix least most (prefix_len p bytes) bytes ≡ None
too_few_counted p radix least most bytes count value counted few ends =
    rw (counted_all p radix bytes count value counted ends) (grind (arith, nat_tests))

pub too_many_counted : (p : ℕ → Bool) (radix least most : ℕ) (bytes : List ℕ) (count value : ℕ) → HaveDigits p radix bytes count value → most < count
    → number_in radix least most (prefix_len p bytes) bytes ≡ None
too_many_counted p radix least most bytes count value counted many =
    let enough = counted_some p radix bytes count value counted in
    grind (arith, nat_tests)
