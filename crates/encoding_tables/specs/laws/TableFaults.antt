-- The lists that are taken as indexes.
use Rattle.std.proofs.Common.{◌≡◌, ◌≢◌, ℕ, ◌+◌, ◌-◌, ◌<◌, ◌≤◌, inl, inr, List, length, get_or, refl, sym, ◌∙◌, ap, arith, None, nat_lt, Bool, true, false, drop, length-take, length-drop}
use Rattle.std.specs.Prelude.{not, ◌||◌, ◌&&◌, ◌==◌, slice_range, min}
use Rattle.std.specs.Char.{InScalarRange, IsScalar}
use Rattle.std.specs.List.{position, position_or_len}
use Rattle.std.specs.Option.{option_map, option_or}
use Rattle.std.proofs.lemmas.Bool.{cases_lt, cases_eq, lt-ltb, le-ltb, ltb-true, ltb-false, eq-eqb, ne_eqb, eqb-true, and_parts, or_cases, not-true, not-false}
use Rattle.std.proofs.lemmas.Bool.Decides.{nat_tests}
use Rattle.std.proofs.lemmas.List.{get_or_past}
use Rattle.std.proofs.lemmas.List.Edits.{get_or-between}
use Rattle.std.proofs.lemmas.List.Sums.{fails_before_first, position_or_len_is}
use Rattle.encoding_tables.specs.Kinds.{index_size, is_big5, is_single_byte_kind}
use Rattle.encoding_tables.specs.Lookups.{AreEntries}
use Rattle.encoding_tables.specs.laws.SingleByte.{AreBasic}
use Rattle.encoding_tables.specs.TableFaults.{flat_fault, is_entry_of, first_bad_entry, first_reserved, reserved_fault}
use Rattle.encoding_tables.specs.Accepted.{IsEntry, IsIndex, AcceptanceIsExact}
use Rattle.encoding_tables.specs.declared.index_kind.IndexKind.{IndexKind}
use Rattle.encoding_tables.specs.declared.index_kind.IndexKind.TheVariants.{Big5, Jis0208}
use Rattle.encoding_tables.specs.declared.table_fault.TableFault.TheVariants.{Size, Entry, Reserved}
use Rattle.encoding_tables.specs.laws.OptionCases.{option_or_none, if_none, if_some_none, map_none}

-- a test that passes nowhere
pub no_position : (test : ℕ → Bool) (xs : List ℕ) → position test xs ≡ None → (k : ℕ) → k < length xs → test (get_or xs k 0) ≡ false
no_position test xs e k within =
    let past : length xs ≤ position_or_len test xs = ltb-false (position_or_len test xs) (length xs) (if_some_none (nat_lt (position_or_len test xs) (length xs)) (position_or_len test xs) e) in
    fails_before_first test xs k 0 (omega arith)

position_none : (test : ℕ → Bool) (xs : List ℕ) → ((k : ℕ) → k < length xs → test (get_or xs k 0) ≡ false) → position test xs ≡ None
position_none test xs fails =
    let all = position_or_len_is test xs (length xs) 0 (omega arith) fails (λ less. absurd (omega (arith, less))) in
    rw (all, le-ltb (length xs) (length xs) (omega arith)) refl

-- ---- an entry

in_range : (v : ℕ) → IsScalar v → InScalarRange v
in_range v h = grind (arith, nat_tests)

is_scalar : (v : ℕ) → InScalarRange v → IsScalar v
is_scalar v h = grind (arith, nat_tests)

big5_is : (kind : IndexKind) → is_big5 kind ≡ true → kind ≡ Big5
big5_is Big5 e = refl
big5_is _ e = cc

is_entry : (kind : IndexKind) (v : ℕ) → is_entry_of kind v ≡ true → v ≢ 0 → IsEntry kind v
is_entry kind v e mapped = elim (or_cases (v == 0 || not (nat_lt v 0x80) && nat_lt v 0xD800 || not (nat_lt v 0xE000) && nat_lt v 0x10000) (is_big5 kind && not (nat_lt v 0x20000) && nat_lt v 0x30000) e) [
  | inl basic ↦ elim (or_cases (v == 0 || not (nat_lt v 0x80) && nat_lt v 0xD800) (not (nat_lt v 0xE000) && nat_lt v 0x10000) basic) [
    | inl low ↦ elim (or_cases (v == 0) (not (nat_lt v 0x80) && nat_lt v 0xD800) low) [
      | inl nil ↦ absurd (mapped (eqb-true v 0 nil))
      | inr under ↦
          let parts = and_parts (not (nat_lt v 0x80)) (nat_lt v 0xD800) under in
          let below : v < 0xD800 = ltb-true v 0xD800 parts.1 in
          record { scalar = is_scalar v (inl below); high = ltb-false v 0x80 (not-true (nat_lt v 0x80) parts.0); plane = inl (omega arith) }
    ]
    | inr over ↦
        let parts = and_parts (not (nat_lt v 0xE000)) (nat_lt v 0x10000) over in
        let from : 0xE000 ≤ v = ltb-false v 0xE000 (not-true (nat_lt v 0xE000) parts.0) in
        let below : v < 0x10000 = ltb-true v 0x10000 parts.1 in
        record { scalar = is_scalar v (inr (from, omega arith)); high = omega arith; plane = inl below }
  ]
  | inr far ↦
      let parts = and_parts (is_big5 kind && not (nat_lt v 0x20000)) (nat_lt v 0x30000) far in
      let both = and_parts (is_big5 kind) (not (nat_lt v 0x20000)) parts.0 in
      let from : 0x20000 ≤ v = ltb-false v 0x20000 (not-true (nat_lt v 0x20000) both.1) in
      let below : v < 0x30000 = ltb-true v 0x30000 parts.1 in
      record {
        scalar = is_scalar v (inr (omega arith, omega arith));
        high = omega arith;
        plane = inr (big5_is kind both.0, from, below);
      }
]

low_entry : (kind : IndexKind) (v : ℕ) → 0x80 ≤ v → v < 0xD800 → is_entry_of kind v ≡ true
low_entry kind v high low = rw (le-ltb v 0x80 high, lt-ltb v 0xD800 low, ne_eqb v 0 (λ e. absurd (omega arith))) refl

middle_entry : (kind : IndexKind) (v : ℕ) → 0xE000 ≤ v → v < 0x10000 → is_entry_of kind v ≡ true
middle_entry kind v high low =
    rw (le-ltb v 0x80 (omega arith), le-ltb v 0xD800 (omega arith), le-ltb v 0xE000 high, lt-ltb v 0x10000 low, ne_eqb v 0 (λ e. absurd (omega arith))) refl

far_entry : (v : ℕ) → 0x20000 ≤ v → v < 0x30000 → is_entry_of Big5 v ≡ true
far_entry v high low =
    rw (
      le-ltb v 0x80 (omega arith),
      le-ltb v 0xD800 (omega arith),
      le-ltb v 0xE000 (omega arith),
      le-ltb v 0x10000 (omega arith),
      le-ltb v 0x20000 high,
      lt-ltb v 0x30000 low,
      ne_eqb v 0 (λ e. absurd (omega arith)),
    )
    refl

entry_is : (kind : IndexKind) (v : ℕ) → IsEntry kind v → is_entry_of kind v ≡ true
entry_is kind v h = elim h.plane [
  | inl basic ↦ elim (in_range v h.scalar) [
    | inl low ↦ low_entry kind v h.high low
    | inr over ↦ middle_entry kind v over.0 basic
  ]
  | inr far ↦ rw (far.0) (far_entry v far.1 far.2)
]

-- ---- a list

-- where an entry that may be reserved stands among those
part : (flat : List ℕ) → length (slice_range flat 8836 10716) ≡ min 1880 (length flat - 8836)
part flat = length-take 1880 (drop 8836 flat) ∙ ap (λ n. min 1880 n) (length-drop 8836 flat)

free_of : (flat : List ℕ) → first_reserved flat ≡ None → (p : ℕ) → 8836 ≤ p → p < 10716 → get_or flat p 0 ≡ 0
free_of flat e p from below = elim (cases_lt p (length flat)) [
  | inr past ↦ get_or_past flat p 0 past
  | inl within ↦
      let none = map_none (λ k. 8836 + k) (position (λ v. not (v == 0)) (slice_range flat 8836 10716)) e in
      let here = no_position (λ v. not (v == 0)) (slice_range flat 8836 10716) none (p - 8836) (omega (arith, part flat, within, from, below)) in
      let back : 8836 + (p - 8836) ≡ p = omega (arith, from) in
      let entry : get_or (slice_range flat 8836 10716) (p - 8836) 0 ≡ get_or flat p 0 = get_or-between flat 8836 10716 (p - 8836) 0 (omega (arith, from, below)) ∙ ap (λ i. get_or flat i 0) back in
      sym entry ∙ eqb-true _ 0 (not-false _ here)
]

none_reserved : (flat : List ℕ) → ((p : ℕ) → 8836 ≤ p → p < 10716 → get_or flat p 0 ≡ 0) → first_reserved flat ≡ None
none_reserved flat free =
    ap (option_map (λ k. 8836 + k)) (position_none (λ v. not (v == 0)) (slice_range flat 8836 10716) fails)
  where
    fails : (k : ℕ) → k < length (slice_range flat 8836 10716) → not (get_or (slice_range flat 8836 10716) k 0 == 0) ≡ false
    fails k within =
        let few : k < 1880 = omega (arith, part flat, within) in
        rw (get_or-between flat 8836 10716 k 0 (omega (arith, few)), free (8836 + k) (omega arith) (omega (arith, few))) refl

pub is_index : (kind : IndexKind) (flat : List ℕ) → flat_fault false kind flat ≡ None → IsIndex kind flat
is_index kind flat taken =
    let sized = if_none (not (length flat == index_size kind)) Size (option_or (option_map Entry (first_bad_entry kind flat)) (reserved_fault kind flat)) taken in
    let parts = option_or_none (option_map Entry (first_bad_entry kind flat)) (reserved_fault kind flat) sized.1 in
    record {
      size = eqb-true (length flat) (index_size kind) (not-false (length flat == index_size kind) sized.0);
      entries = entries (map_none Entry (first_bad_entry kind flat) parts.0);
      reserved = λ is. reserved is parts.1;
    }
  where
    entries : first_bad_entry kind flat ≡ None → (p : ℕ) → get_or flat p 0 ≢ 0 → IsEntry kind (get_or flat p 0)
    entries none p mapped = elim (cases_lt p (length flat)) [
      | inl within ↦ is_entry kind (get_or flat p 0) (not-false (is_entry_of kind (get_or flat p 0)) (no_position (λ v. not (is_entry_of kind v)) flat none p within)) mapped
      | inr past ↦ absurd (mapped (get_or_past flat p 0 past))
    ]

    reserved : kind ≡ Jis0208 → reserved_fault kind flat ≡ None → (p : ℕ) → 8836 ≤ p → p < 10716 → get_or flat p 0 ≡ 0
    reserved is none = free_of flat (map_none Reserved (first_reserved flat) (rw is at none))

reserved_none : (kind : IndexKind) (flat : List ℕ) → (kind ≡ Jis0208 → first_reserved flat ≡ None) → reserved_fault kind flat ≡ None
reserved_none Jis0208 flat none = ap (option_map Reserved) (none refl)
reserved_none _ flat none = refl

no_fault_of : (kind : IndexKind) (flat : List ℕ) → IsIndex kind flat → flat_fault false kind flat ≡ None
no_fault_of kind flat h =
    rw (eq-eqb (length flat) (index_size kind) h.size, position_none (λ v. not (is_entry_of kind v)) flat fits) none
  where
    fits : (k : ℕ) → k < length flat → not (is_entry_of kind (get_or flat k 0)) ≡ false
    fits k within = elim (cases_eq (get_or flat k 0) 0) [
      | inl nil ↦ rw nil refl
      | inr mapped ↦ rw (entry_is kind (get_or flat k 0) (h.entries k mapped)) refl
    ]

    none : reserved_fault kind flat ≡ None
    none = reserved_none kind flat (λ is. none_reserved flat (h.reserved is))

pub acceptance_is_exact : AcceptanceIsExact
acceptance_is_exact kind flat = (is_index kind flat, no_fault_of kind flat)

pub entries_are_scalars : (kind : IndexKind) (flat : List ℕ) → IsIndex kind flat → AreEntries flat
entries_are_scalars kind flat index p mapped = (index.entries p mapped).scalar

-- those of a single-byte encoding are in the basic plane
not_big5 : (kind : IndexKind) → is_single_byte_kind kind ≡ true → kind ≡ Big5 → ⊥
not_big5 kind single is = let no = rw is at single in clash no
  where
    clash : false ≡ true → ⊥
    clash e = cc

pub entries_are_basic : (kind : IndexKind) (flat : List ℕ) → is_single_byte_kind kind ≡ true → IsIndex kind flat → AreBasic flat
entries_are_basic kind flat single index p = elim (cases_eq (get_or flat p 0) 0) [
  | inl nil ↦ omega (arith, nil)
  | inr mapped ↦ elim ((index.entries p mapped).plane) [
    | inl basic ↦ basic
    | inr far ↦ absurd (not_big5 kind single far.0)
  ]
]
