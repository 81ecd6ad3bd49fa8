-- A prefix of ASCII bytes. The bits of a vector that is compared with one value.
use Rattle.std.proofs.Common.{ℕ, ◌+◌, ◌≤◌, ◌<◌, inl, inr, List, length, take, get_or, arith, subst, ◌≡◌, length-take, ◌^◌, ◌-◌, ◌%◌, ◌*◌, Bool, true, false, not, cond, ap, ◌∙◌, suc, [], ◌∷◌, refl}
use Rattle.std.specs.Str.{IsAscii}
use Rattle.std.specs.List.{prefix_len}
use Rattle.std.proofs.lemmas.Bool.{cases_lt}
use Rattle.std.proofs.lemmas.List.{get_or-take, get_or_past, length-map}
use Rattle.encoding_mem.specs.LongestPrefix.{IsLongestPrefix}
use Rattle.std.specs.Prelude.{replicate}
use mir.Val.{bits, hbits}
use mir.Syntax.{Width}
use lib.Lanes.{zip2, top, mask_l}
use mathlib.Core.List.{map}
use Rattle.std.proofs.lemmas.Simd.{tops_compared, zip2_splat_left, mask_l-mod}

pub ascii_take : (xs : List ℕ) (n : ℕ) → n ≤ length xs → ((k : ℕ) → k < n → get_or xs k 0 < 0x80) → IsAscii (take n xs)
ascii_take xs n fits h i = elim (cases_lt i n) [
  | inl below ↦ rw (get_or-take n xs i 0 below) (h i below)
  | inr past ↦ omega (arith, get_or_past (take n xs) i 0 (omega (arith, length-take n xs)))
]

-- what is after the longest one is no ASCII
pub behind_ascii : (xs : List ℕ) (n : ℕ) → IsLongestPrefix IsAscii xs n → n < length xs → 0x80 ≤ get_or xs n 0
behind_ascii xs n prefix more = elim (cases_lt (get_or xs n 0) 0x80) [
  | inr high ↦ high
  | inl low ↦ absurd (prefix.longest (n + 1) (omega arith) (omega arith) (ascii_take xs (n + 1) (omega arith) (each low)))
]
  where
    each : get_or xs n 0 < 0x80 → (k : ℕ) → k < n + 1 → get_or xs k 0 < 0x80
    each low k within = elim (cases_lt k n) [
      | inl before ↦ omega (arith, prefix.well_formed k, get_or-take n xs k 0 before)
      | inr last ↦ (let same : n ≡ k = omega arith in subst (λ j. get_or xs j 0 < 0x80) same low)
    ]

-- it is at least as long as any other
pub ascii_at_least : (xs : List ℕ) (n m : ℕ) → IsLongestPrefix IsAscii xs n → m ≤ length xs → ((k : ℕ) → k < m → get_or xs k 0 < 0x80) → m ≤ n
ascii_at_least xs n m prefix fits low = elim (cases_lt n m) [
  | inl less ↦ absurd (prefix.longest m less fits (ascii_take xs m fits low))
  | inr more ↦ more
]

-- The bits of a vector that is compared with one value.

-- if no lane passes p, no bit is set
unset_bit : (b : Bool) (n m l : ℕ) → cond (not b) (1 + m) 0 ≡ suc l → (m ≡ l → n ≡ 0) → cond b 1 0 + 2 * n ≡ 0
unset_bit true n m l e f = absurd (omega (arith, e))
unset_bit false n m l e f = omega (arith, f (omega (arith, e)))

pub empty_mask : {X : Type 0} (p : X → Bool) (xs : List X) → prefix_len (λ x. not (p x)) xs ≡ length xs → mask_l (map p xs) ≡ 0
empty_mask p [] all = refl
empty_mask p (x ∷ xs) all = unset_bit (p x) (mask_l (map p xs)) (prefix_len (λ y. not (p y)) xs) (length xs) all (empty_mask p xs)

-- std's bitmask_splat, with the value on the left: `simd_ge` compares the other way round
pub bitmask_splat_left : {X : Type 0} (w : Width) (t : X → X → Bool) (n : ℕ) (x : X) (ys : List X) → length ys ≡ n → n ≤ 64
    → mask_l (map (top (hbits w)) (zip2 (λ a b. cond (t a b) (2 ^ bits w - 1) 0) (replicate n x) ys)) % 2 ^ 64 ≡ mask_l (map (λ y. t x y) ys)
bitmask_splat_left w t n x ys e le =
    ap (λ ms. mask_l ms % 2 ^ 64) (tops_compared w t (replicate n x) ys ∙ zip2_splat_left (λ a b. t a b) x n ys e) ∙ mask_l-mod (map (λ y. t x y) ys) 64 (omega (arith, length-map ys (λ y. t x y)))
