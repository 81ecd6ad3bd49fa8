-- Look-ups in the list of an index, in which an entry 0 is none (the Encoding Standard, section 5, "index code point"
-- and "index pointer").
use Rattle.std.specs.Prelude.{◌≢◌, ℕ, ◌+◌, Bool, List, [], ◌∷◌, ◌==◌, if◌then◌else◌, Option, None, Some, slice_range, slice_index}
use Rattle.std.specs.Char.{IsScalar}
use Rattle.std.specs.List.{position}
use Rattle.std.specs.Option.{option_map, option_or}

-- the "index code point" (section 5) of a pointer: none if its entry is 0 or past the list's end
abbrev pub value_of : List ℕ → ℕ → Option ℕ
value_of flat p = if slice_index flat p == 0 then None else Some (slice_index flat p)

-- each entry of a list is 0 or a scalar
abbrev pub AreEntries : List ℕ → Type 0
AreEntries flat = (p : ℕ) → slice_index flat p ≢ 0 → IsScalar (slice_index flat p)

-- the position of the last element of a list that passes a test, if there is one
abbrev pub last_position : {X : Type 0} → (X → Bool) → List X → Option ℕ
last_position test [] = None
last_position test (x ∷ xs) = option_or (option_map (λ k. k + 1) (last_position test xs)) (if test x then Some 0 else None)

-- the least pointer, from `from` to below `to`, whose entry is c: none if c is 0 or no entry
abbrev pub first_pointer : List ℕ → ℕ → ℕ → ℕ → Option ℕ
first_pointer flat c from to = if c == 0 then None else option_map (λ k. from + k) (position (λ v. v == c) (slice_range flat from to))

-- the greatest pointer, from `from` to below `to`, whose entry is c: none if c is 0 or no entry
abbrev pub last_pointer : List ℕ → ℕ → ℕ → ℕ → Option ℕ
last_pointer flat c from to = if c == 0 then None else option_map (λ k. from + k) (last_position (λ v. v == c) (slice_range flat from to))
