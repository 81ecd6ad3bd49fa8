-- Worked rows of `specs/calls/TextDestination.antt`. Two more are in `Texts`.
use Rattle.std.proofs.Common.{◌≡◌, ◌<◌, ℕ, List, [], ◌∷◌, refl, arith}
use Rattle.encoding_mem.specs.calls.TextDestination.{cleared, Overwrites}

-- 80 and BF are the first and the last continuation byte; what follows another byte stays
continuation_bytes : cleared (0x80 ∷ 0xBF ∷ 0xC0 ∷ 0x80 ∷ []) ≡ 0 ∷ 0 ∷ 0xC0 ∷ 0x80 ∷ []
continuation_bytes = refl

before_continuation_bytes : cleared (0x7F ∷ 0x80 ∷ []) ≡ 0x7F ∷ 0x80 ∷ []
before_continuation_bytes = refl

-- `A` over the start of `€B`: the two bytes that are left of the euro sign become 00
letter_over_euro : Overwrites (0xE2 ∷ 0x82 ∷ 0xAC ∷ 0x42 ∷ []) (0x41 ∷ []) (0x41 ∷ 0 ∷ 0 ∷ 0x42 ∷ []) 1
letter_over_euro = record { counted = refl; within = omega arith; list = refl }

-- Bytes that are left of a character become 00, and nothing else changes: a byte of the euro sign that stays, and a
-- letter that does not, are refuted.
rest_of_euro_does_not_stay : ¬ (Overwrites (0xE2 ∷ 0x82 ∷ 0xAC ∷ 0x42 ∷ []) (0x41 ∷ []) (0x41 ∷ 0x82 ∷ 0xAC ∷ 0x42 ∷ []) 1)
rest_of_euro_does_not_stay is = second 0x82 _ _ is.list (omega arith)
  where
    second : (b : ℕ) (x y : List ℕ) → 0x41 ∷ b ∷ x ≡ 0x41 ∷ 0 ∷ y → 0 < b → ⊥
    second b x y same some = let zero : b ≡ 0 = cc in omega (arith, zero, some)

letter_after_it_stays : ¬ (Overwrites (0x41 ∷ 0x42 ∷ []) (0x43 ∷ []) (0x43 ∷ 0 ∷ []) 1)
letter_after_it_stays is = second 0 0x42 _ _ is.list (omega arith)
  where
    second : (b c : ℕ) (x y : List ℕ) → 0x43 ∷ b ∷ x ≡ 0x43 ∷ c ∷ y → b < c → ⊥
    second b c x y same less = let is : b ≡ c = cc in omega (arith, is, less)
