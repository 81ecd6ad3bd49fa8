-- Laws of Big5.
use Rattle.std.proofs.Common.{◌≡◌, ◌≢◌, ℕ, ◌+◌, ◌/◌, ◌%◌, ◌<◌, ◌≤◌, Bool, true, false, cond, List, refl, ap, ◌∙◌, arith, Some, inl, inr}
use Rattle.std.specs.Prelude.{◌==◌, ◌||◌}
use Rattle.std.specs.Int.{is_in_range}
use Rattle.std.proofs.lemmas.Bool.{le-ltb, lt-ltb, ne_eqb, cases_lt}
use Rattle.encoding_mem.specs.Agreement.{ReadsByStep}
use Rattle.encoding_mem.specs.Coding.{IsCoding}
use Rattle.encoding_mem.specs.ReadBack.{ReadsBackExactly}
use Rattle.encoding_tables.specs.Lookups.{AreEntries, value_of, first_pointer, last_pointer}
use Rattle.encoding_tables.specs.LookupLaws.{IsPointer}
use Rattle.encoding_tables.specs.laws.Pointers.{first_is_least, last_is_greatest}
use Rattle.encoding_codecs.specs.Pointers.{value_of_entry}
use Rattle.encoding_codecs.specs.laws.Pointers.{is_value_of_entry, is_value_if, is_first_if, in_range, coding_by_pointer, IsPairOf, reads_by_pointer}
use Rattle.encoding_mem.specs.Steps.{StepLaw, in_any_set}
use Rattle.encoding_mem.specs.Stateless.{stateless}
use Rattle.encoding_codecs.specs.laws.ExactReadBack.{ReadsEach, each_reads_back_exactly, reads_back_by_steps, each_by_step}
use Rattle.encoding_codecs.specs.Big5.{is_big5_trail, big5_pair_pointer, big5_value, big5_pair, pieces_big5, takes_greatest_pointer, index_big5_pointer, big5_trail, big5_pair_bytes, big5_form}
use Rattle.encoding_codecs.specs.declared.lead_byte_rule.FirstByte.TheVariants.{Lead, Unused}
use Rattle.encoding_codecs.specs.declared.two_byte.PairValue.TheVariants.{NoChar, OneChar, TwoChars}
use Rattle.encoding_codecs.specs.calls.TwoByteRule.{big5_rule, IsPairValue, IsTwoByte}
use Rattle.encoding_codecs.specs.laws.FirstPieces.{first_piece_big5}

-- ---- values

is_value : (flat : List ℕ) → AreEntries flat → (p : ℕ) → IsPairValue (big5_value flat p)
is_value flat scalars p =
    is_value_if (p == 1133) (TwoChars 0xCA 0x304) _ (refl, refl, omega arith, omega arith)
    (is_value_if (p == 1135) (TwoChars 0xCA 0x30C) _ (refl, refl, omega arith, omega arith)
    (is_value_if (p == 1164) (TwoChars 0xEA 0x304) _ (refl, refl, omega arith, omega arith)
    (is_value_if (p == 1166) (TwoChars 0xEA 0x30C) (value_of_entry (value_of flat p)) (refl, refl, omega arith, omega arith) (is_value_of_entry flat scalars p))))

pub big5_is_two_byte : (flat : List ℕ) → AreEntries flat → IsTwoByte (big5_rule flat)
big5_is_two_byte flat scalars = record {
  firsts = λ a. is_first_if (is_in_range 0x81 0xFE a) Lead Unused tt tt;
  pairs = λ a b. is_value_if (is_big5_trail b) (big5_value flat (big5_pair_pointer a b)) NoChar (is_value flat scalars (big5_pair_pointer a b)) tt;
}

pub big5_laws : (flat : List ℕ) → IsCoding 2 (stateless (big5_form flat))
big5_laws flat = coding_by_pointer big5_pair_bytes (index_big5_pointer flat) (λ p. omega arith)

-- ---- reading back

-- from 5024 on a pointer gives its entry
entry_from : (flat : List ℕ) (p : ℕ) → 5024 ≤ p → big5_value flat p ≡ value_of_entry (value_of flat p)
entry_from flat p from =
    let a : p ≢ 1133 = λ e. omega arith in
    let b : p ≢ 1135 = λ e. omega arith in
    let c : p ≢ 1164 = λ e. omega arith in
    let d : p ≢ 1166 = λ e. omega arith in
    rw (ne_eqb p 1133 a, ne_eqb p 1135 b, ne_eqb p 1164 c, ne_eqb p 1166 d) refl

-- the trail of a pointer is one, and stands for the pointer's rest
pub record IsTrailOf (lead p b : ℕ) : Type 0 where
  pub trail : is_big5_trail b ≡ true
  pub pointer : big5_pair_pointer lead b ≡ p

either : (t u : Bool) → u ≡ true → (t || u) ≡ true
either true u h = refl
either false u h = h

trail_of : (p : ℕ) → IsTrailOf (0x81 + p / 157) p (big5_trail (p % 157))
trail_of p = elim (cases_lt (p % 157) 63) [
  | inl low ↦
      let under : 0x40 + p % 157 < 0x7F = omega (arith, low) in
      rw (lt-ltb (p % 157) 63 low) (record {
        trail = rw (in_range 0x40 0x7E (0x40 + p % 157) (omega arith) (omega (arith, low))) refl;
        pointer = rw (lt-ltb (0x40 + p % 157) 0x7F under) (omega (arith, low));
      })
  | inr high ↦
      let over : 0x7F ≤ 0x62 + p % 157 = omega (arith, high) in
      rw (le-ltb (p % 157) 63 high) (record {
        trail = either (is_in_range 0x40 0x7E (0x62 + p % 157)) (is_in_range 0xA1 0xFE (0x62 + p % 157)) (in_range 0xA1 0xFE (0x62 + p % 157) (omega (arith, high)) (omega arith));
        pointer = rw (le-ltb (0x62 + p % 157) 0x7F over) (omega (arith, high));
      })
]

pair_of : (flat : List ℕ) (c p : ℕ) → IsPointer flat c 5024 19782 p → IsPairOf (big5_rule flat) c (big5_pair_bytes p)
pair_of flat c p h =
    let below : p < 19782 = h.before in
    let t = trail_of p in
    record {
      lead = 0x81 + p / 157;
      trail = big5_trail (p % 157);
      is = refl;
      high = omega arith;
      leads = rw (in_range 0x81 0xFE (0x81 + p / 157) (omega arith) (omega arith)) refl;
      gives = gives t.trail t.pointer;
    }
  where
    gives : is_big5_trail (big5_trail (p % 157)) ≡ true → big5_pair_pointer (0x81 + p / 157) (big5_trail (p % 157)) ≡ p
        → big5_pair flat (0x81 + p / 157) (big5_trail (p % 157)) ≡ OneChar c
    gives trail pointer =
        ap (λ t. cond t (big5_value flat (big5_pair_pointer (0x81 + p / 157) (big5_trail (p % 157)))) NoChar) trail
        ∙ ap (big5_value flat) pointer ∙ entry_from flat p h.after ∙ ap value_of_entry h.entry

found : (flat : List ℕ) (c p : ℕ) (t : Bool) → cond t (last_pointer flat c 5024 19782) (first_pointer flat c 5024 19782) ≡ Some p
    → IsPointer flat c 5024 19782 p
found flat c p true e = (rw e at (last_is_greatest flat c 5024 19782)).0
found flat c p false e = (rw e at (first_is_least flat c 5024 19782)).0

reads_each : (flat : List ℕ) → AreEntries flat → ReadsEach (first_piece_big5 flat) (big5_form flat)
reads_each flat scalars =
    reads_by_pointer (big5_rule flat) (big5_is_two_byte flat scalars) big5_pair_bytes (index_big5_pointer flat)
    (λ c p high e. pair_of flat c p (found flat c p (takes_greatest_pointer c) e))

pub big5_exact : (flat : List ℕ) → AreEntries flat → ReadsBackExactly (pieces_big5 flat) (stateless (big5_form flat))
big5_exact flat scalars = each_reads_back_exactly (first_piece_big5 flat) (big5_form flat) (reads_each flat scalars)

pub big5_steps : (flat : List ℕ) → AreEntries flat → StepLaw (stateless (big5_form flat)) (in_any_set (pieces_big5 flat))
big5_steps flat scalars = reads_back_by_steps (first_piece_big5 flat) (big5_form flat) (reads_each flat scalars)

pub big5_by_step : (flat : List ℕ) → AreEntries flat → ReadsByStep (stateless (big5_form flat)) (in_any_set (pieces_big5 flat))
big5_by_step flat scalars = each_by_step (first_piece_big5 flat) (big5_form flat) (reads_each flat scalars) tt
