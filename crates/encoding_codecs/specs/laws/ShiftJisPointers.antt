-- Shift_JIS takes the least pointer that it may.
use Rattle.std.proofs.Common.{ℕ, ◌<◌, ◌≤◌, List, arith, Option, None, Some, inl, inr}
use Rattle.std.specs.Prelude.{MatchOption}
use Rattle.std.specs.Option.{option_or}
use Rattle.encoding_tables.specs.Lookups.{first_pointer}
use Rattle.encoding_tables.specs.LookupLaws.{IsPointer}
use Rattle.encoding_tables.specs.laws.Pointers.{first_is_least}
use Rattle.encoding_codecs.specs.ShiftJisPointers.{IsUsedPointer, IsLeastUsed, ShiftJisPointerIsLeast}

-- the least pointer with a character from one bound to below another, or there is none
abbrev Least : List ℕ → (c from to : ℕ) → Option ℕ → Type 0
Least jis0208 c from to o = MatchOption o
    ((p : ℕ) → ¬ (IsPointer jis0208 c from to p))
    (λ p. IsPointer jis0208 c from to p × ((q : ℕ) → IsPointer jis0208 c from to q → p ≤ q))

-- a pointer below 8272 that Shift_JIS may take for a character is one from 0 to 8271
in_first : (jis0208 : List ℕ) (c p : ℕ) → IsUsedPointer jis0208 c p → p < 8272 → IsPointer jis0208 c 0 8272 p
in_first jis0208 c p h low = record { after = omega arith; before = low; entry = h.entry }

-- a pointer from 8836 on that Shift_JIS may take for a character is one from 8836 to 11279
in_last : (jis0208 : List ℕ) (c p : ℕ) → IsUsedPointer jis0208 c p → 8836 ≤ p → IsPointer jis0208 c 8836 11280 p
in_last jis0208 c p h high = record { after = high; before = h.before; entry = h.entry }

-- the least pointer Shift_JIS may take is the least from 0 to 8271, or else from 8836 to 11279
of_two : (jis0208 : List ℕ) (c : ℕ) (o o' : Option ℕ) → Least jis0208 c 0 8272 o → Least jis0208 c 8836 11280 o' → IsLeastUsed jis0208 c (option_or o o')
of_two jis0208 c (Some p) o' h k = (
  record { before = omega (arith, h.0.before); used = inl h.0.before; entry = h.0.entry },
  λ q j. elim j.used [
    | inl low ↦ h.1 q (in_first jis0208 c q j low)
    | inr high ↦ omega (arith, h.0.before, high)
  ],
)
of_two jis0208 c None (Some p) h k = (
  record { before = k.0.before; used = inr k.0.after; entry = k.0.entry },
  λ q j. elim j.used [
    | inl low ↦ absurd (h q (in_first jis0208 c q j low))
    | inr high ↦ k.1 q (in_last jis0208 c q j high)
  ],
)
of_two jis0208 c None None h k = λ q j. elim j.used [
  | inl low ↦ h q (in_first jis0208 c q j low)
  | inr high ↦ k q (in_last jis0208 c q j high)
]

-- the proof that Shift_JIS takes a character's least jis0208 pointer below 11280, not 8272 to 8835
pub pointer_is_least_used : ShiftJisPointerIsLeast
pointer_is_least_used jis0208 c =
    of_two jis0208 c (first_pointer jis0208 c 0 8272) (first_pointer jis0208 c 8836 11280) (first_is_least jis0208 c 0 8272) (first_is_least jis0208 c 8836 11280)
