use Rattle.std.proofs.Common.{true≢false, ◌∙◌, [], sym, map, ap}
use Rattle.std.specs.Char.{to_ascii_lowercase}
use Rattle.encoding_labels.proofs.LabelLemmas.{label_number_in-found, label_number_in-skip}
use Rattle.encoding_labels.proofs.label.find.Goals as goal

pub returns-then-eq_ignore_ascii_case : goal.returns-then-eq_ignore_ascii_case
returns-then-eq_ignore_ascii_case c =
    sym (label_number_in-found c.args.rows.now c.loop-label.label-index _ _ c.loop-label-test.true
    (ap (map to_ascii_lowercase) (sym c.as_bytes.ensures.value) ∙ c.eq_ignore_ascii_case.ensures.test.0 c.if-eq_ignore_ascii_case.true))
    ∙ c.loop-label.invariant

pub loop-label-preserved : goal.loop-label-preserved
loop-label-preserved c =
    label_number_in-skip c.args.rows.now c.loop-label.label-index (record { ref_ptr = (0, 0); now = [] }, 0) (map to_ascii_lowercase c.args.text.now) c.loop-label-test.true
    (λ same. true≢false (sym (c.eq_ignore_ascii_case.ensures.test.1 (ap (map to_ascii_lowercase) c.as_bytes.ensures.value ∙ same)) ∙ c.if-eq_ignore_ascii_case.false))
    ∙ c.loop-label.invariant
