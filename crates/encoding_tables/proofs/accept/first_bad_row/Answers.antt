use Rattle.std.proofs.Common.{◌≡◌, not, sym, ap, arith, inl, inr, refl, ◌∙◌}
use Rattle.std.proofs.lemmas.Bool.{cases_lt}
use Rattle.encoding_tables.specs.Kinds.{index_size}
use Rattle.encoding_tables.specs.calls.SortedRows.{row_at}
use Rattle.encoding_tables.specs.TableFaults.{is_entry_of}
use Rattle.encoding_tables.proofs.RowFaultLemmas.{first_row, no_row}
use Rattle.encoding_tables.proofs.accept.first_bad_row.Goals as goal

pub returns-then-not-is_entry : goal.returns-then-not-is_entry
returns-then-not-is_entry c = sym (first_row (λ v. not (is_entry_of c.args.kind v)) (index_size c.args.kind) c.args.rows.now c.loop-pointer.pointer-index c.requires.rise c.requires.below refl
    c.loop-pointer-test.true (ap not (sym c.if-not-is_entry.ensures)) (λ j less. ap not (c.loop-pointer.invariant j less)))

pub loop-pointer-preserved : goal.loop-pointer-preserved
loop-pointer-preserved c = λ j less. elim (cases_lt j c.loop-pointer.pointer-index) [
  | inl early ↦ c.loop-pointer.invariant j early
  | inr late ↦
      let here : j ≡ c.loop-pointer.pointer-index = omega arith in
      ap (λ i. is_entry_of c.args.kind (row_at c.args.rows.now i).1) here ∙ sym c.if-not-is_entry.ensures
]

pub returns : goal.returns
returns c = sym (no_row (λ v. not (is_entry_of c.args.kind v)) (index_size c.args.kind) c.args.rows.now refl (λ j within. ap not (c.loop-pointer.invariant j (omega (arith, c.loop-pointer-test.false)))))
