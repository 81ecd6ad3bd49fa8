-- What is read of a prefix, and prefixes by a fact of each element.
use Rattle.std.proofs.Common.{◌∙◌, sym, subst, ap, drop, length-drop, ◌-◌, ◌≡◌, ℕ, ◌+◌, ◌<◌, ◌≤◌, inl, inr, List, length, take, get_or, arith, length-take}
use Rattle.std.specs.Prelude.{not, nat_le}
use Rattle.std.specs.List.{prefix_len}
use lib.Lanes.{chunk}
use Rattle.std.proofs.lemmas.Bool.{cases_lt, leb-false}
use Rattle.std.proofs.lemmas.Simd.{run_in_chunk_fails}
use Rattle.std.proofs.lemmas.List.{get_or-take, get_or-drop, get_or_past, take_all}
use Rattle.encoding_mem.specs.LongestPrefix.{IsLongestPrefix}

pub read_behind : (xs : List ℕ) (n i : ℕ) → n ≤ i → get_or (take n xs) i 0 ≡ 0
read_behind xs n i behind = get_or_past (take n xs) i 0 (omega (arith, length-take n xs))

-- if each element below n passes, so does each element of that prefix
pub each_of_prefix : (P : ℕ → Type 0) (xs : List ℕ) (n : ℕ) → P 0 → ((k : ℕ) → k < n → P (get_or xs k 0)) → (i : ℕ) → P (get_or (take n xs) i 0)
each_of_prefix P xs n zero_passes below i = elim (cases_lt i n) [
  | inl inside ↦ rw (get_or-take n xs i 0 inside) (below i inside)
  | inr past ↦ rw (read_behind xs n i past) zero_passes
]

-- up to the first element that does not pass
pub up_to_first : (P : ℕ → Type 0) (xs : List ℕ) (n : ℕ) → P 0 → n ≤ length xs → ((k : ℕ) → k < n → P (get_or xs k 0))
    → (n < length xs → ¬ (P (get_or xs n 0))) → IsLongestPrefix (λ l. (i : ℕ) → P (get_or l i 0)) xs n
up_to_first P xs n zero_passes within below ends = record {
  within = within;
  well_formed = each_of_prefix P xs n zero_passes below;
  longest = λ m more some all. ends (omega arith) (rw (← get_or-take m xs n 0 more) (all n));
}

-- if each element of a list passes
pub each_of_list : (P : ℕ → Type 0) (xs : List ℕ) (n : ℕ) → P 0 → length xs ≤ n → ((k : ℕ) → k < n → P (get_or xs k 0)) → (i : ℕ) → P (get_or xs i 0)
each_of_list P xs n zero_passes whole below i = elim (cases_lt i n) [
  | inl inside ↦ below i inside
  | inr past ↦ rw (get_or_past xs i 0 (omega arith)) zero_passes
]

-- a block more
pub each_of_block : (P : ℕ → Type 0) (xs : List ℕ) (at size : ℕ) → at + size ≤ length xs → ((k : ℕ) → k < at → P (get_or xs k 0))
    → ((k : ℕ) → k < length (take ((at + size) - at) (drop at xs)) → P (get_or (take ((at + size) - at) (drop at xs)) k 0))
    → (k : ℕ) → k < at + size → P (get_or xs k 0)
each_of_block P xs at size fits below block k inside = elim (cases_lt k at) [
  | inl before ↦ below k before
  | inr from ↦
      let here : k - at < (at + size) - at = omega arith in
      let there : at + (k - at) ≡ k = omega arith in
      let same : get_or (take ((at + size) - at) (drop at xs)) (k - at) 0 ≡ get_or xs k 0 =
      get_or-take ((at + size) - at) (drop at xs) (k - at) 0 here ∙ get_or-drop at xs (k - at) 0 ∙ ap (λ j. get_or xs j 0) there in
      subst P same (block (k - at) (omega (arith, length-take ((at + size) - at) (drop at xs), length-drop at xs)))
]

-- a whole list
pub whole_prefix : (WellFormed : List ℕ → Type 0) (xs : List ℕ) → WellFormed xs → IsLongestPrefix WellFormed xs (length xs)
whole_prefix WellFormed xs all = record {
  within = omega arith;
  well_formed = subst WellFormed (sym (take_all (length xs) xs (omega arith))) all;
  longest = λ m more some. absurd (omega arith);
}

-- the lanes of a vector more, up to the first that is not below the limit
pub below_run : (xs : List ℕ) (at size run limit : ℕ) → at + size ≤ length xs → ((k : ℕ) → k < at → get_or xs k 0 < limit)
    → run ≡ prefix_len (λ b. not (nat_le limit b)) (chunk at size xs) → (k : ℕ) → k < at + run → get_or xs k 0 < limit
below_run xs at size run limit fits below counted k inside = elim (cases_lt k at) [
  | inl before ↦ below k before
  | inr from ↦ leb-false _ _ (run_in_chunk_fails (nat_le limit) xs at size run 0 fits counted k from inside)
]

-- a vector whose start is known already, which ends where the list does
pub below_last : (xs : List ℕ) (at from size run limit : ℕ) → from + size ≤ length xs → from ≤ at → ((k : ℕ) → k < at → get_or xs k 0 < limit)
    → run ≡ prefix_len (λ b. not (nat_le limit b)) (chunk from size xs) → (k : ℕ) → k < from + run → get_or xs k 0 < limit
below_last xs at from size run limit fits early below counted = below_run xs from size run limit fits (λ k before. below k (omega arith)) counted
