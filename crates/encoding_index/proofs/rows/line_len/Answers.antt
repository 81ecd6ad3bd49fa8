use Rattle.std.proofs.Common.{◌≤◌, ◌+◌, length, refl, sym, arith, inl, inr}
use Rattle.std.proofs.lemmas.Bool.{cases_lt}
use Rattle.std.proofs.lemmas.Simd.{run_in_chunk_le, run_in_chunk_fails, run_in_chunk_stops}
use Rattle.std.proofs.lemmas.List.Sums.{position_or_len_is}
use Rattle.encoding_index.proofs.LineLemmas.{is_newline}
use Rattle.encoding_index.proofs.rows.line_len.Goals as goal

pub overflow_add-at : goal.overflow_add-at
overflow_add-at c =
    let fits : c.lanes.at + 32 ≤ length c.args.text.now = omega (arith, c.lanes-test.true, c.lanes.invariant.within) in
    omega (arith, fits, run_in_chunk_le is_newline c.args.text.now c.lanes.at 32 c.lanes_before_newline-run.result 0 fits c.lanes_before_newline-run.ensures)

pub returns-then-run-lt-LANES : goal.returns-then-run-lt-LANES
returns-then-run-lt-LANES c =
    let text = c.args.text.now in
    let fits : c.lanes.at + 32 ≤ length text = omega (arith, c.lanes-test.true, c.lanes.invariant.within) in
    let run = c.lanes_before_newline-run.result in
    sym (position_or_len_is is_newline text (c.lanes.at + run) 0 (omega (arith, fits, c.if-run-lt-LANES.true)) (λ k below. elim (cases_lt k c.lanes.at) [
      | inl before ↦ c.lanes.invariant.before k before
      | inr behind ↦ run_in_chunk_fails is_newline text c.lanes.at 32 run 0 fits c.lanes_before_newline-run.ensures k behind below
    ]) (λ _. run_in_chunk_stops is_newline text c.lanes.at 32 run 0 fits c.lanes_before_newline-run.ensures c.if-run-lt-LANES.true))

pub lanes-preserved : goal.lanes-preserved
lanes-preserved c =
    let text = c.args.text.now in
    let fits : c.lanes.at + 32 ≤ length text = omega (arith, c.lanes-test.true, c.lanes.invariant.within) in
    let run = c.lanes_before_newline-run.result in
    record {
      within = omega (arith, fits, run_in_chunk_le is_newline text c.lanes.at 32 run 0 fits c.lanes_before_newline-run.ensures);
      before = λ k below. elim (cases_lt k c.lanes.at) [
        | inl before ↦ c.lanes.invariant.before k before
        | inr behind ↦ run_in_chunk_fails is_newline text c.lanes.at 32 run 0 fits c.lanes_before_newline-run.ensures k behind below
      ];
    }

pub returns-else-text-at-ne10 : goal.returns-else-text-at-ne10
returns-else-text-at-ne10 c = sym (position_or_len_is is_newline c.args.text.now c.bytes.at 0 c.bytes.invariant.within c.bytes.invariant.before (λ _. rw c.if-text-at-ne10.false refl))

pub returns-after-bytes : goal.returns-after-bytes
returns-after-bytes c = sym (position_or_len_is is_newline c.args.text.now c.bytes.at 0 c.bytes.invariant.within c.bytes.invariant.before (λ within. absurd (omega (arith, within, c.bytes-test.false))))
