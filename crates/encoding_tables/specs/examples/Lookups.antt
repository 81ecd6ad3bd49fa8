-- Worked rows of `specs/Lookups.antt` and `specs/LookupLaws.antt`.
use Rattle.std.proofs.Common.{refl, arith}
use Rattle.std.specs.Prelude.{◌≡◌, ◌<◌, ℕ, [], ◌∷◌, None, Some}
use Rattle.encoding_tables.specs.LookupLaws.{IsPointer}
use Rattle.encoding_tables.specs.Lookups.{value_of, first_pointer, last_pointer}

first : first_pointer (0 ∷ 0xE9 ∷ 0xE9 ∷ []) 0xE9 0 3 ≡ Some 1
first = refl

last : last_pointer (0 ∷ 0xE9 ∷ 0xE9 ∷ 0 ∷ []) 0xE9 0 9 ≡ Some 2
last = refl

unmapped : first_pointer (0 ∷ 0xE9 ∷ []) 0 0 2 ≡ None
unmapped = refl

-- the entry at a pointer; an entry 0 is none, and so is what is beyond the end
entry : value_of (0 ∷ 0xE9 ∷ []) 1 ≡ Some 0xE9
entry = refl

zero_is_none : value_of (0 ∷ 0xE9 ∷ []) 0 ≡ None
zero_is_none = refl

behind_the_end : value_of (0 ∷ 0xE9 ∷ []) 2 ≡ None
behind_the_end = refl

-- pointers are looked for from the first one given to before the second
from_a_pointer : first_pointer (0xE9 ∷ 0 ∷ 0xE9 ∷ []) 0xE9 1 3 ≡ Some 2
from_a_pointer = refl

before_a_pointer : first_pointer (0 ∷ 0xE9 ∷ []) 0xE9 0 1 ≡ None
before_a_pointer = refl

last_from_a_pointer : last_pointer (0xE9 ∷ 0 ∷ 0xE9 ∷ 0xE9 ∷ []) 0xE9 1 3 ≡ Some 2
last_from_a_pointer = refl

zero_is_at_none : last_pointer (0 ∷ 0xE9 ∷ []) 0 0 2 ≡ None
zero_is_at_none = refl

-- A pointer with another character, with none, or at the end of those that are searched is refuted.
other_character_is_not_found : IsPointer (0xE8 ∷ 0xE9 ∷ []) 0xE9 0 2 0 → ⊥
other_character_is_not_found pointer = by 0xE8 0xE9 pointer.entry (omega arith)
  where
    by : (c d : ℕ) → Some c ≡ Some d → c < d → ⊥
    by c d same less = let is : c ≡ d = cc in omega (arith, is, less)

unmapped_is_not_found : IsPointer (0 ∷ 0xE9 ∷ []) 0 0 2 0 → ⊥
unmapped_is_not_found pointer = by 0 pointer.entry
  where
    by : (c : ℕ) → None ≡ Some c → ⊥
    by c same = cc

end_is_not_searched : IsPointer (0xE8 ∷ 0xE9 ∷ []) 0xE9 0 1 1 → ⊥
end_is_not_searched pointer = omega (arith, pointer.before)
