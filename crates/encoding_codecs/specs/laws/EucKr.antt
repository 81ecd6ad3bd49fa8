-- Laws of EUC-KR.
use Rattle.std.proofs.Common.{◌≡◌, ℕ, ◌+◌, ◌/◌, ◌%◌, ◌<◌, List, refl, arith, Some}
use Rattle.std.specs.Int.{is_in_range}
use Rattle.encoding_mem.specs.Agreement.{ReadsByStep}
use Rattle.encoding_mem.specs.Coding.{IsCoding}
use Rattle.encoding_mem.specs.ReadBack.{ReadsBackExactly}
use Rattle.encoding_tables.specs.Lookups.{AreEntries, value_of, first_pointer}
use Rattle.encoding_tables.specs.LookupLaws.{IsPointer}
use Rattle.encoding_tables.specs.laws.Pointers.{first_is_least}
use Rattle.encoding_codecs.specs.Pointers.{value_of_entry}
use Rattle.encoding_codecs.specs.laws.Pointers.{is_value_of_entry, is_value_if, is_first_if, coding_by_pointer, IsPairOf, in_range, reads_by_pointer}
use Rattle.encoding_mem.specs.Steps.{StepLaw, in_any_set}
use Rattle.encoding_mem.specs.Stateless.{stateless}
use Rattle.encoding_codecs.specs.laws.ExactReadBack.{ReadsEach, each_reads_back_exactly, reads_back_by_steps, each_by_step}
use Rattle.encoding_codecs.specs.EucKr.{euc_kr_pair_pointer, pieces_euc_kr, euc_kr_pair_bytes, euc_kr_form}
use Rattle.encoding_codecs.specs.declared.lead_byte_rule.FirstByte.TheVariants.{Lead, Unused}
use Rattle.encoding_codecs.specs.declared.two_byte.PairValue.TheVariants.{NoChar}
use Rattle.encoding_codecs.specs.calls.TwoByteRule.{euc_kr_rule, IsTwoByte}
use Rattle.encoding_codecs.specs.laws.FirstPieces.{first_piece_euc_kr}

pub euc_kr_is_two_byte : (flat : List ℕ) → AreEntries flat → IsTwoByte (euc_kr_rule flat)
euc_kr_is_two_byte flat scalars = record {
  firsts = λ a. is_first_if (is_in_range 0x81 0xFE a) Lead Unused tt tt;
  pairs = λ a b. is_value_if (is_in_range 0x41 0xFE b) (value_of_entry (value_of flat (euc_kr_pair_pointer a b))) NoChar (is_value_of_entry flat scalars (euc_kr_pair_pointer a b)) tt;
}

pub euc_kr_laws : (flat : List ℕ) → IsCoding 2 (stateless (euc_kr_form flat))
euc_kr_laws flat = coding_by_pointer euc_kr_pair_bytes (λ c. first_pointer flat c 0 23940) (λ p. omega arith)

-- the bytes of a pointer are the lead and the trail with this pointer
pair_of : (flat : List ℕ) (c p : ℕ) → IsPointer flat c 0 23940 p → IsPairOf (euc_kr_rule flat) c (euc_kr_pair_bytes p)
pair_of flat c p h =
    let below : p < 23940 = h.before in
    let back : euc_kr_pair_pointer (0x81 + p / 190) (0x41 + p % 190) ≡ p = omega arith in
    record {
      lead = 0x81 + p / 190;
      trail = 0x41 + p % 190;
      is = refl;
      high = omega arith;
      leads = rw (in_range 0x81 0xFE (0x81 + p / 190) (omega arith) (omega arith)) refl;
      gives = rw (in_range 0x41 0xFE (0x41 + p % 190) (omega arith) (omega arith), back, h.entry) refl;
    }

found : (flat : List ℕ) (c p : ℕ) → first_pointer flat c 0 23940 ≡ Some p → IsPointer flat c 0 23940 p
found flat c p e = (rw e at (first_is_least flat c 0 23940)).0

reads_each : (flat : List ℕ) → AreEntries flat → ReadsEach (first_piece_euc_kr flat) (euc_kr_form flat)
reads_each flat scalars =
    reads_by_pointer (euc_kr_rule flat) (euc_kr_is_two_byte flat scalars) euc_kr_pair_bytes (λ c. first_pointer flat c 0 23940)
    (λ c p high e. pair_of flat c p (found flat c p e))

pub euc_kr_exact : (flat : List ℕ) → AreEntries flat → ReadsBackExactly (pieces_euc_kr flat) (stateless (euc_kr_form flat))
euc_kr_exact flat scalars = each_reads_back_exactly (first_piece_euc_kr flat) (euc_kr_form flat) (reads_each flat scalars)

pub euc_kr_steps : (flat : List ℕ) → AreEntries flat → StepLaw (stateless (euc_kr_form flat)) (in_any_set (pieces_euc_kr flat))
euc_kr_steps flat scalars = reads_back_by_steps (first_piece_euc_kr flat) (euc_kr_form flat) (reads_each flat scalars)

pub euc_kr_by_step : (flat : List ℕ) → AreEntries flat → ReadsByStep (stateless (euc_kr_form flat)) (in_any_set (pieces_euc_kr flat))
euc_kr_by_step flat scalars = each_by_step (first_piece_euc_kr flat) (euc_kr_form flat) (reads_each flat scalars) tt
