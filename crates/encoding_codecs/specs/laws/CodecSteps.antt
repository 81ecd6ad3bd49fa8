-- The step law of the targets with folds and one set.
use Rattle.std.proofs.Common.{ℕ, Bool, List, refl}
use Rattle.encoding_mem.specs.Steps.{StepLaw, in_any_set}
use Rattle.encoding_mem.specs.Agreement.{ReadsByStep}
use Rattle.encoding_mem.specs.laws.OneSet.{one_set_by_step}
use Rattle.encoding_mem.specs.laws.Steps.{step_law}
use Rattle.encoding_mem.specs.Stateless.{stateless}
use Rattle.encoding_tables.specs.Lookups.{AreEntries}
use Rattle.encoding_tables.specs.Ranges.{HaveScalars}
use Rattle.encoding_codecs.specs.laws.TwoByte.{cuts_two_byte, cuts_rule}
use Rattle.encoding_codecs.specs.ShiftJis.{pieces_shift_jis, shift_jis_form}
use Rattle.encoding_codecs.specs.laws.ShiftJis.{shift_jis_is_two_byte}
use Rattle.encoding_codecs.specs.laws.ShiftJisSteps.{shift_jis_steps}
use Rattle.encoding_codecs.specs.EucJp.{pieces_euc_jp, euc_jp_form}
use Rattle.encoding_codecs.specs.laws.EucJp.{euc_jp_is_lead_rule}
use Rattle.encoding_codecs.specs.laws.EucJpSteps.{euc_jp_steps}
use Rattle.encoding_codecs.specs.Gb18030.{pieces_gb18030}
use Rattle.encoding_codecs.specs.Gb18030Coding.{gb18030_form}
use Rattle.encoding_codecs.specs.laws.Gb18030.{AreGbTables, cuts_gb18030}
use Rattle.encoding_codecs.specs.laws.Gb18030Steps.{gb18030_steps}
use Rattle.encoding_codecs.specs.calls.TwoByteRule.{shift_jis_rule}
use Rattle.encoding_codecs.specs.laws.FirstPieces.{first_piece_shift_jis, first_piece_euc_jp, first_piece_gb18030}

pub shift_jis_step_law : (jis0208 : List ℕ) → AreEntries jis0208
    → StepLaw (stateless (shift_jis_form jis0208)) (in_any_set (pieces_shift_jis jis0208))
shift_jis_step_law jis0208 scalars =
    step_law (first_piece_shift_jis jis0208) (shift_jis_form jis0208) (cuts_two_byte (shift_jis_rule jis0208) (shift_jis_is_two_byte jis0208 scalars))
    (shift_jis_steps jis0208)

pub euc_jp_step_law : (jis0208 jis0212 : List ℕ) → AreEntries jis0208 → AreEntries jis0212
    → StepLaw (stateless (euc_jp_form jis0208)) (in_any_set (pieces_euc_jp jis0208 jis0212))
euc_jp_step_law jis0208 jis0212 scalars more =
    step_law (first_piece_euc_jp jis0208 jis0212) (euc_jp_form jis0208) (cuts_rule _ _ _ (euc_jp_is_lead_rule jis0208 jis0212 scalars more))
    (euc_jp_steps jis0208 jis0212)

pub gb18030_step_law : (flat : List ℕ) (rows : List (ℕ × ℕ)) (extended : Bool) → AreEntries flat → HaveScalars rows
    → StepLaw (stateless (gb18030_form flat rows extended)) (in_any_set (pieces_gb18030 flat rows))
gb18030_step_law flat rows extended scalars values =
    step_law (first_piece_gb18030 flat rows) (gb18030_form flat rows extended) (cuts_gb18030 flat rows (record { entries = scalars; values = values }))
    (gb18030_steps flat rows extended)

-- So they read back step by step: `&` is itself, and has bytes.
pub shift_jis_by_step : (jis0208 : List ℕ) → AreEntries jis0208 → ReadsByStep (stateless (shift_jis_form jis0208)) (in_any_set (pieces_shift_jis jis0208))
shift_jis_by_step jis0208 scalars =
    one_set_by_step (first_piece_shift_jis jis0208) (shift_jis_form jis0208) (cuts_two_byte (shift_jis_rule jis0208) (shift_jis_is_two_byte jis0208 scalars))
    (shift_jis_step_law jis0208 scalars) (λ x. refl) tt

pub euc_jp_by_step : (jis0208 jis0212 : List ℕ) → AreEntries jis0208 → AreEntries jis0212 → ReadsByStep (stateless (euc_jp_form jis0208)) (in_any_set (pieces_euc_jp jis0208 jis0212))
euc_jp_by_step jis0208 jis0212 scalars more =
    one_set_by_step (first_piece_euc_jp jis0208 jis0212) (euc_jp_form jis0208) (cuts_rule _ _ _ (euc_jp_is_lead_rule jis0208 jis0212 scalars more))
    (euc_jp_step_law jis0208 jis0212 scalars more) (λ x. refl) tt

pub gb18030_by_step : (flat : List ℕ) (rows : List (ℕ × ℕ)) (extended : Bool) → AreGbTables flat rows → ReadsByStep (stateless (gb18030_form flat rows extended)) (in_any_set (pieces_gb18030 flat rows))
gb18030_by_step flat rows extended are =
    one_set_by_step (first_piece_gb18030 flat rows) (gb18030_form flat rows extended) (cuts_gb18030 flat rows are)
    (gb18030_step_law flat rows extended are.entries are.values) (λ x. refl) tt
