-- What gb18030 or GBK writes for a scalar reads back as it, or as something else whatever follows: no table is asked.
use Rattle.std.proofs.Common.{◌≡◌, ℕ, ◌+◌, ◌/◌, ◌%◌, ◌<◌, ◌≤◌, ◌⊎◌, Bool, true, false, cond, nat_lt, nat_le, List, [], ◌∷◌, refl, sym, ◌∙◌, ap, arith, Option, None, Some, inl, inr}
use Rattle.std.specs.Prelude.{◌==◌, ◌&&◌, ◌||◌, not}
use Rattle.std.specs.Int.{is_in_range}
use Rattle.std.specs.List.{find}
use Rattle.std.specs.Option.{option_map, option_or}
use Rattle.std.proofs.lemmas.Bool.{cases_lt, lt-ltb, le-ltb, leb-true, and_parts}
use Rattle.std.proofs.lemmas.Bool.Decides.{nat_tests}
use Rattle.encoding_mem.specs.declared.codec.reference.Reference.{Reference}
use Rattle.encoding_mem.specs.Coding.{spelled, form_of_bytes}
use Rattle.encoding_mem.specs.Piece.{well_formed, malformed, piece_of_scalar}
use Rattle.encoding_mem.specs.Steps.{Returns, Strays, StepsReadBack}
use Rattle.encoding_tables.specs.Lookups.{value_of, first_pointer}
use Rattle.encoding_tables.specs.LookupLaws.{IsPointer}
use Rattle.encoding_tables.specs.laws.OptionCases.{map_some}
use Rattle.encoding_tables.specs.laws.Pointers.{first_is_least}
use Rattle.encoding_tables.specs.Ranges.{range_value, range_pointer}
use Rattle.encoding_tables.specs.laws.Ranges.{range_pointer-before}
use Rattle.encoding_codecs.specs.TwoByte.{piece_of_trail}
use Rattle.encoding_codecs.specs.laws.TwoByte.{lead_ascii}
use Rattle.encoding_codecs.specs.Pointers.{value_of_entry}
use Rattle.encoding_codecs.specs.declared.two_byte.PairValue.TheVariants.{NoChar}
use Rattle.encoding_codecs.specs.Gb18030.{gb18030_first, gb18030_pair, gb18030_pair_pointer, gb18030_four_pointer, gb18030_after_two, gb18030_after_lead}
use Rattle.encoding_codecs.specs.Gb18030Coding.{gb18030_fixed_rows, gb18030_fixed_pair, two_of, gb18030_trail, gb18030_pair_bytes, gb18030_four_bytes, gb18030_index_bytes, gb18030_range_bytes, gb18030_form}
use Rattle.encoding_codecs.specs.laws.Steps.{IsEither, malformed_either, one_either, either_if, by_piece, reference_strays}
use Rattle.encoding_codecs.specs.laws.FirstPieces.{first_piece_gb18030}

-- ---- the first piece of a lead and what follows it

in_range : (low high n : ℕ) → low ≤ n → n ≤ high → is_in_range low high n ≡ true
in_range low high n from to = grind (arith, nat_tests)

no_digit : (b : ℕ) → 0x40 ≤ b → is_in_range 0x30 0x39 b ≡ false
no_digit b from = grind (arith, nat_tests)

no_euro : (a : ℕ) → 0x81 ≤ a → (a == 0x80) ≡ false
no_euro a from = grind (arith, nat_tests)

lead_first_piece : (flat : List ℕ) (rows : List (ℕ × ℕ)) (a : ℕ) (x : List ℕ) → 0x81 ≤ a → a ≤ 0xFE → first_piece_gb18030 flat rows (a ∷ x) ≡ gb18030_after_lead flat rows a x
lead_first_piece flat rows a x from to = rw (le-ltb a 0x80 (omega (arith, from)), no_euro a from, in_range 0x81 0xFE a from to) refl

pair_first_piece : (flat : List ℕ) (rows : List (ℕ × ℕ)) (a b : ℕ) (y : List ℕ) → 0x81 ≤ a → a ≤ 0xFE → 0x40 ≤ b
    → first_piece_gb18030 flat rows (a ∷ b ∷ y) ≡ piece_of_trail 1 (gb18030_pair flat a b) b
pair_first_piece flat rows a b y from to trail =
    lead_first_piece flat rows a (b ∷ y) from to
    ∙ ap (λ t. cond t (gb18030_after_two rows a b y) (piece_of_trail 1 (gb18030_pair flat a b) b)) (no_digit b trail)

-- a pair gives one scalar or none
trail_either : (c b : ℕ) (t : Bool) (o : Option ℕ) → IsEither 2 c (piece_of_trail 1 (cond t (value_of_entry o) NoChar) b)
trail_either c b true (Some d) = one_either 2 c d
trail_either c b true None = either_if 2 c (nat_lt b 0x80) (malformed 1) (malformed 2) (malformed_either 2 1 c (omega arith)) (malformed_either 2 2 c (omega arith))
trail_either c b false o = either_if 2 c (nat_lt b 0x80) (malformed 1) (malformed 2) (malformed_either 2 1 c (omega arith)) (malformed_either 2 2 c (omega arith))

four_either : (c : ℕ) (o : Option ℕ) → IsEither 4 c (piece_of_scalar 4 o)
four_either c None = malformed_either 4 4 c (omega arith)
four_either c (Some d) = one_either 4 c d

-- ---- bytes by where they come from

-- bytes of gb18030 read as the character c alone, or begin with a piece that is not c
abbrev Steps : List ℕ → List (ℕ × ℕ) → ℕ → List ℕ → Type 0
Steps flat rows c bs = Returns (first_piece_gb18030 flat rows) bs c ⊎ Strays (first_piece_gb18030 flat rows) bs c

pair_steps : (flat : List ℕ) (rows : List (ℕ × ℕ)) (c a b : ℕ) → 0x81 ≤ a → a ≤ 0xFE → 0x40 ≤ b → Steps flat rows c (a ∷ b ∷ [])
pair_steps flat rows c a b from to trail =
    by_piece (first_piece_gb18030 flat rows) (a ∷ b ∷ []) c (piece_of_trail 1 (gb18030_pair flat a b) b) (λ y. pair_first_piece flat rows a b y from to trail)
    (trail_either c b (is_in_range 0x40 0x7E b || is_in_range 0x80 0xFE b) (value_of flat (gb18030_pair_pointer a b)))

four_steps : (flat : List ℕ) (rows : List (ℕ × ℕ)) (s a b c d : ℕ) → 0x81 ≤ a → a ≤ 0xFE → 0x30 ≤ b → b ≤ 0x39 → 0x81 ≤ c → c ≤ 0xFE → 0x30 ≤ d → d ≤ 0x39
    → Steps flat rows s (a ∷ b ∷ c ∷ d ∷ [])
four_steps flat rows s a b c d from_a to_a from_b to_b from_c to_c from_d to_d =
    by_piece (first_piece_gb18030 flat rows) (a ∷ b ∷ c ∷ d ∷ []) s (piece_of_scalar 4 (range_value rows (gb18030_four_pointer a b c d)))
    (λ y. lead_first_piece flat rows a (b ∷ c ∷ d ∷ y) from_a to_a ∙ rw (in_range 0x30 0x39 b from_b to_b, in_range 0x81 0xFE c from_c to_c, in_range 0x30 0x39 d from_d to_d) refl)
    (four_either s (range_value rows (gb18030_four_pointer a b c d)))

-- the rows of the standard's table
is_row : ℕ × (ℕ × ℕ) → Bool
is_row r = is_in_range 0x81 0xFE r.1.0 && nat_le 0x40 r.1.1

are_rows : List (ℕ × (ℕ × ℕ)) → Bool
are_rows [] = true
are_rows (r ∷ rs) = is_row r && are_rows rs

fixed_rows_are : are_rows gb18030_fixed_rows ≡ true
unfolding are_rows is_row
fixed_rows_are = refl

found_if : (t : Bool) (r s : ℕ × (ℕ × ℕ)) (o : Option (ℕ × (ℕ × ℕ))) → cond t (Some s) o ≡ Some r → (s ≡ r) ⊎ (o ≡ Some r)
found_if true r s o e = inl (cc)
found_if false r s o e = inr e

found_row : (c : ℕ) (rs : List (ℕ × (ℕ × ℕ))) (r : ℕ × (ℕ × ℕ)) → are_rows rs ≡ true → find (λ s. s.0 == c) rs ≡ Some r → is_row r ≡ true
unfolding are_rows
found_row c [] r all e = absurd (cc)
found_row c (s ∷ rs) r all e =
    let parts = and_parts (is_row s) (are_rows rs) all in
    elim (found_if (s.0 == c) r s (find (λ q. q.0 == c) rs) e) [
      | inl here ↦ ap is_row (sym here) ∙ parts.0
      | inr later ↦ found_row c rs r parts.1 later
    ]

row_steps : (flat : List ℕ) (rows : List (ℕ × ℕ)) (c : ℕ) (r : ℕ × (ℕ × ℕ)) → is_row r ≡ true → Steps flat rows c (two_of r.1)
unfolding is_row
row_steps flat rows c r is =
    let parts = and_parts (is_in_range 0x81 0xFE r.1.0) (nat_le 0x40 r.1.1) is in
    let lead = and_parts (nat_le 0x81 r.1.0) (nat_le r.1.0 0xFE) parts.0 in
    pair_steps flat rows c r.1.0 r.1.1 (leb-true 0x81 r.1.0 lead.0) (leb-true r.1.0 0xFE lead.1) (leb-true 0x40 r.1.1 parts.1)

fixed_steps : (flat : List ℕ) (rows : List (ℕ × ℕ)) (c : ℕ) (bs : List ℕ) → option_map two_of (gb18030_fixed_pair c) ≡ Some bs → Steps flat rows c bs
fixed_steps flat rows c bs e =
    let pair = map_some two_of (gb18030_fixed_pair c) bs e in
    let row = map_some (λ (r : ℕ × (ℕ × ℕ)). r.1) (find (λ r. r.0 == c) gb18030_fixed_rows) pair.0 pair.1 in
    rw (← pair.2, ← row.2) (row_steps flat rows c row.0 (found_row c gb18030_fixed_rows row.0 fixed_rows_are row.1))

-- the pointers of the index
trail_is : (r : ℕ) → 0x40 ≤ gb18030_trail r
trail_is r = elim (cases_lt r 0x3F) [
  | inl low ↦ rw (lt-ltb r 0x3F low) (omega arith)
  | inr high ↦ rw (le-ltb r 0x3F high) (omega arith)
]

found : (flat : List ℕ) (c p : ℕ) → first_pointer flat c 0 23940 ≡ Some p → IsPointer flat c 0 23940 p
found flat c p e = (rw e at (first_is_least flat c 0 23940)).0

index_steps : (flat : List ℕ) (rows : List (ℕ × ℕ)) (c : ℕ) (bs : List ℕ) → gb18030_index_bytes flat c ≡ Some bs → Steps flat rows c bs
index_steps flat rows c bs e =
    let p = map_some gb18030_pair_bytes (first_pointer flat c 0 23940) bs e in
    let below : p.0 < 23940 = (found flat c p.0 p.1).before in
    rw (← p.2) (pair_steps flat rows c (0x81 + p.0 / 190) (gb18030_trail (p.0 % 190)) (omega arith) (omega arith) (trail_is (p.0 % 190)))

-- those of the ranges
range_steps : (flat : List ℕ) (rows : List (ℕ × ℕ)) (extended : Bool) (c : ℕ) (bs : List ℕ) → gb18030_range_bytes rows extended c ≡ Some bs → Steps flat rows c bs
range_steps flat rows false c bs e = absurd (cc)
range_steps flat rows true c bs e =
    let p = map_some gb18030_four_bytes (range_pointer rows c) bs e in
    let below : p.0 < 1237576 = rw (p.1) at (range_pointer-before rows c) in
    rw (← p.2)
    (four_steps flat rows c (0x81 + p.0 / 12600) (0x30 + p.0 / 1260 % 10) (0x81 + p.0 / 10 % 126) (0x30 + p.0 % 10)
    (omega arith) (omega arith) (omega arith) (omega arith) (omega arith) (omega arith) (omega arith) (omega arith))

-- ---- any character

-- what is written for c by its bytes, or its reference, reads as c alone, or begins with a piece
-- that is not c
abbrev StepsOf : Reference → List ℕ → List (ℕ × ℕ) → ℕ → Option (List ℕ) → Type 0
StepsOf ref flat rows c o = Steps flat rows c (spelled ref (form_of_bytes c o))

steps_if : (ref : Reference) (flat : List ℕ) (rows : List (ℕ × ℕ)) (c : ℕ) (t : Bool) (o p : Option (List ℕ)) → StepsOf ref flat rows c o → StepsOf ref flat rows c p → StepsOf ref flat rows c (cond t o p)
steps_if ref flat rows c true o p h k = h
steps_if ref flat rows c false o p h k = k

steps_or : (ref : Reference) (flat : List ℕ) (rows : List (ℕ × ℕ)) (c : ℕ) (o p : Option (List ℕ)) → ((bs : List ℕ) → o ≡ Some bs → Steps flat rows c bs) → StepsOf ref flat rows c p
    → StepsOf ref flat rows c (option_or o p)
steps_or ref flat rows c None p h k = k
steps_or ref flat rows c (Some bs) p h k = h bs refl

ascii_prefix : (flat : List ℕ) (rows : List (ℕ × ℕ)) (b : ℕ) (x : List ℕ) → b < 0x80 → first_piece_gb18030 flat rows (b ∷ x) ≡ well_formed 1 (b ∷ [])
ascii_prefix flat rows = lead_ascii gb18030_first (gb18030_after_lead flat rows)

none_steps : (ref : Reference) (flat : List ℕ) (rows : List (ℕ × ℕ)) (c : ℕ) → 0x80 ≤ c → StepsOf ref flat rows c None
none_steps ref flat rows c high = inr (reference_strays ref (first_piece_gb18030 flat rows) (ascii_prefix flat rows) c c high)

high_steps : (ref : Reference) (flat : List ℕ) (rows : List (ℕ × ℕ)) (extended : Bool) (c : ℕ) → 0x80 ≤ c
    → StepsOf ref flat rows c (option_or (option_map two_of (gb18030_fixed_pair c)) (option_or (gb18030_index_bytes flat c) (gb18030_range_bytes rows extended c)))
high_steps ref flat rows extended c high =
    steps_or ref flat rows c (option_map two_of (gb18030_fixed_pair c)) (option_or (gb18030_index_bytes flat c) (gb18030_range_bytes rows extended c)) (fixed_steps flat rows c)
    (steps_or ref flat rows c (gb18030_index_bytes flat c) (gb18030_range_bytes rows extended c) (index_steps flat rows c) (last (gb18030_range_bytes rows extended c) refl))
  where
    last : (o : Option (List ℕ)) → gb18030_range_bytes rows extended c ≡ o → StepsOf ref flat rows c o
    last None e = none_steps ref flat rows c high
    last (Some bs) e = range_steps flat rows extended c bs e

pub gb18030_steps : (flat : List ℕ) (rows : List (ℕ × ℕ)) (extended : Bool) → StepsReadBack (first_piece_gb18030 flat rows) (gb18030_form flat rows extended)
gb18030_steps flat rows extended ref c scalar = elim (cases_lt c 0x80) [
  | inl low ↦ rw (lt-ltb c 0x80 low) (inl (record { piece = λ y. ascii_prefix flat rows c y low }))
  | inr high ↦ rw (le-ltb c 0x80 high)
      (steps_if ref flat rows c (c == 0xE5E5) None _ (none_steps ref flat rows c high)
      (steps_if ref flat rows c (c == 0x20AC && not extended) (Some (0x80 ∷ [])) _
      (by_piece (first_piece_gb18030 flat rows) (0x80 ∷ []) c (well_formed 1 (0x20AC ∷ [])) (λ y. refl) (one_either 1 c 0x20AC))
      (high_steps ref flat rows extended c high)))
]
