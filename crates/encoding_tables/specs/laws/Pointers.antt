-- The pointers that the look-ups find are the least and the greatest.
use Rattle.std.proofs.Common.{◌≡◌, ◌≢◌, ℕ, ◌+◌, ◌-◌, ◌<◌, ◌≤◌, zero, suc, List, [], ◌∷◌, length, get_or, refl, sym, ◌∙◌, ap, arith, Bool, true, false, cond, Option, None, Some, inl, inr, drop, length-take, length-drop}
use Rattle.std.specs.Prelude.{◌==◌, slice_range, MatchOption, min}
use Rattle.std.specs.List.{position}
use Rattle.std.specs.Option.{option_map}
use Rattle.std.proofs.lemmas.Bool.{cases_lt, cases_eq, eq-eqb, ne_eqb, eqb-true, eqb-false}
use Rattle.std.proofs.lemmas.List.{get_or_past}
use Rattle.std.proofs.lemmas.List.Quantifiers.{position-Some}
use Rattle.std.proofs.lemmas.List.Edits.{get_or-between}
use Rattle.encoding_tables.specs.Lookups.{value_of, last_position}
use Rattle.encoding_tables.specs.LookupLaws.{IsPointer, FirstIsLeast, LastIsGreatest}
use Rattle.encoding_tables.specs.laws.OptionCases.{option_or_none, option_or_some, map_none, map_some, if_some_none, if_some_some}
use Rattle.encoding_tables.specs.laws.TableFaults.{no_position}

pub value_some : (flat : List ℕ) (p c : ℕ) → value_of flat p ≡ Some c → (get_or flat p 0 ≡ c) × (c ≢ 0)
value_some flat p c e = elim (cases_eq (get_or flat p 0) 0) [
  | inl none ↦ absurd (let no = rw (eq-eqb (get_or flat p 0) 0 none) at e in cc)
  | inr mapped ↦
      let some = rw (ne_eqb (get_or flat p 0) 0 mapped) at e in
      let is : get_or flat p 0 ≡ c = cc in
      (is, λ z. mapped (is ∙ z))
]

pub value_of-mapped : (flat : List ℕ) (p c : ℕ) → get_or flat p 0 ≡ c → c ≢ 0 → value_of flat p ≡ Some c
value_of-mapped flat p c is mapped = rw (is, ne_eqb c 0 mapped) refl

-- where an entry from `from` to below `to` stands in that part of the list
length_of_part : (flat : List ℕ) (from to : ℕ) → length (slice_range flat from to) ≡ min (to - from) (length flat - from)
length_of_part flat from to = length-take (to - from) (drop from flat) ∙ ap (λ n. min (to - from) n) (length-drop from flat)

in_part : (flat : List ℕ) (c from to p : ℕ) → IsPointer flat c from to p → (p - from < length (slice_range flat from to)) × (get_or (slice_range flat from to) (p - from) 0 ≡ c)
in_part flat c from to p h =
    let v = value_some flat p c h.entry in
    let back : from + (p - from) ≡ p = omega (arith, h.after) in
    elim (cases_lt p (length flat)) [
      | inl within ↦ (
        omega (arith, length_of_part flat from to, within, h.before, h.after),
        get_or-between flat from to (p - from) 0 (omega (arith, h.before, h.after)) ∙ rw back v.0,
      )
      | inr past ↦ absurd (v.1 (sym v.0 ∙ get_or_past flat p 0 past))
    ]

from_part : (flat : List ℕ) (c from to k : ℕ) → c ≢ 0 → k < length (slice_range flat from to) → get_or (slice_range flat from to) k 0 ≡ c → IsPointer flat c from to (from + k)
from_part flat c from to k mapped within is =
    let len = length_of_part flat from to in
    record {
      after = omega arith;
      before = omega (arith, len, within);
      entry = value_of-mapped flat (from + k) c (sym (get_or-between flat from to k 0 (omega (arith, len, within))) ∙ is) mapped;
    }

-- a test that fails at an entry that it names
clash : (v c : ℕ) → (v == c) ≡ false → v ≡ c → ⊥
clash v c fails is = eqb-false v c fails is

first_case : (flat : List ℕ) (c from to : ℕ) → c ≢ 0 → (o : Option ℕ) → position (λ v. v == c) (slice_range flat from to) ≡ o
    → MatchOption (option_map (λ k. from + k) o) ((p : ℕ) → ¬ (IsPointer flat c from to p)) (λ p. IsPointer flat c from to p × ((q : ℕ) → IsPointer flat c from to q → p ≤ q))
first_case flat c from to mapped None e = λ p h.
    let t = in_part flat c from to p h in
    clash _ c (no_position (λ v. v == c) (slice_range flat from to) e (p - from) t.0) t.1
first_case flat c from to mapped (Some k) e =
    let found = position-Some (λ v. v == c) (slice_range flat from to) k 0 e in (
      from_part flat c from to k mapped found.0 (eqb-true _ c found.1),
      λ q h.
          let t = in_part flat c from to q h in
          elim (cases_lt q (from + k)) [
            | inl less ↦ absurd (clash _ c (found.2 (q - from) (omega (arith, h.after))) t.1)
            | inr more ↦ more
          ],
    )

no_pointer_to_zero : (flat : List ℕ) (c from to p : ℕ) → c ≡ 0 → ¬ (IsPointer flat c from to p)
no_pointer_to_zero flat c from to p nil h = (value_some flat p c h.entry).1 nil

pub first_is_least : FirstIsLeast
first_is_least flat c from to = elim (cases_eq c 0) [
  | inl nil ↦ rw (eq-eqb c 0 nil) (λ p. no_pointer_to_zero flat c from to p nil)
  | inr mapped ↦ rw (ne_eqb c 0 mapped) (first_case flat c from to mapped (position (λ v. v == c) (slice_range flat from to)) refl)
]

-- the last index at which a test passes
last_none : (test : ℕ → Bool) (xs : List ℕ) → last_position test xs ≡ None → (k : ℕ) → k < length xs → test (get_or xs k 0) ≡ false
last_none test [] e k within = absurd (omega (arith, within))
last_none test (x ∷ xs) e zero within =
    if_some_none (test x) 0 (option_or_none (option_map (λ k. k + 1) (last_position test xs)) (cond (test x) (Some 0) None) e).1
last_none test (x ∷ xs) e (suc k) within =
    last_none test xs (map_none (λ k. k + 1) (last_position test xs) (option_or_none (option_map (λ k. k + 1) (last_position test xs)) (cond (test x) (Some 0) None) e).0) k (omega (arith, within))

-- i is the last index in a list at which a test passes
pub record IsLast (test : ℕ → Bool) (xs : List ℕ) (i : ℕ) : Type 0 where
  pub within : i < length xs
  pub passes : test (get_or xs i 0) ≡ true
  pub rest : (k : ℕ) → i < k → k < length xs → test (get_or xs k 0) ≡ false

last_some : (test : ℕ → Bool) (xs : List ℕ) (i : ℕ) → last_position test xs ≡ Some i → IsLast test xs i
last_some test [] i e = absurd (cc)
last_some test (x ∷ xs) i e = elim (option_or_some (option_map (λ k. k + 1) (last_position test xs)) (cond (test x) (Some 0) None) i e) [
  | inl behind ↦
      let m = map_some (λ k. k + 1) (last_position test xs) i behind in
      let h = last_some test xs m.0 m.1 in
      shift m.0 m.2 h
  | inr here ↦
      let s = if_some_some (test x) 0 i here.1 in
      first s.1 s.0 (map_none (λ k. k + 1) (last_position test xs) here.0)
]
  where
    later : (n : ℕ) → IsLast test xs n → (k : ℕ) → suc n < k → k < length (x ∷ xs) → test (get_or (x ∷ xs) k 0) ≡ false
    later n h zero more less = absurd (omega (arith, more))
    later n h (suc k) more less = h.rest k (omega (arith, more)) (omega (arith, less))

    moved : (n : ℕ) → IsLast test xs n → IsLast test (x ∷ xs) (suc n)
    moved n h = record { within = omega (arith, h.within); passes = h.passes; rest = later n h }

    shift : (n : ℕ) → n + 1 ≡ i → IsLast test xs n → IsLast test (x ∷ xs) i
    shift n is h = let same : suc n ≡ i = omega (arith, is) in rw (← same) (moved n h)

    rest : last_position test xs ≡ None → (k : ℕ) → 0 < k → k < length (x ∷ xs) → test (get_or (x ∷ xs) k 0) ≡ false
    rest none zero more less = absurd (omega (arith, more))
    rest none (suc k) more less = last_none test xs none k (omega (arith, less))

    first : 0 ≡ i → test x ≡ true → last_position test xs ≡ None → IsLast test (x ∷ xs) i
    first is passes none = rw (← is) (record { within = omega arith; passes = passes; rest = rest none })

last_case : (flat : List ℕ) (c from to : ℕ) → c ≢ 0 → (o : Option ℕ) → last_position (λ v. v == c) (slice_range flat from to) ≡ o
    → MatchOption (option_map (λ k. from + k) o) ((p : ℕ) → ¬ (IsPointer flat c from to p)) (λ p. IsPointer flat c from to p × ((q : ℕ) → IsPointer flat c from to q → q ≤ p))
last_case flat c from to mapped None e = λ p h.
    let t = in_part flat c from to p h in
    clash _ c (last_none (λ v. v == c) (slice_range flat from to) e (p - from) t.0) t.1
last_case flat c from to mapped (Some k) e =
    let found = last_some (λ v. v == c) (slice_range flat from to) k e in (
      from_part flat c from to k mapped found.within (eqb-true _ c found.passes),
      λ q h.
          let t = in_part flat c from to q h in
          elim (cases_lt (from + k) q) [
            | inl more ↦ absurd (clash _ c (found.rest (q - from) (omega (arith, h.after, more)) t.0) t.1)
            | inr less ↦ less
          ],
    )

pub last_is_greatest : LastIsGreatest
last_is_greatest flat c from to = elim (cases_eq c 0) [
  | inl nil ↦ rw (eq-eqb c 0 nil) (λ p. no_pointer_to_zero flat c from to p nil)
  | inr mapped ↦ rw (ne_eqb c 0 mapped) (last_case flat c from to mapped (last_position (λ v. v == c) (slice_range flat from to)) refl)
]
