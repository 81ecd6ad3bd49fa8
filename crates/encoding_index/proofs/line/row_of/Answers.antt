use Rattle.std.proofs.Common.{◌≡◌, Bool, true, false, not, refl, sym, arith, ◌∙◌}
use Rattle.std.proofs.lemmas.Bool.Decides.{nat_tests}
use Rattle.encoding_index.proofs.StartLemmas.{no_start, row_in_zero, row_in_open, row_in_ended}
use Rattle.encoding_index.proofs.line.row_of.Goals.{then-code-eq0, else-code-eq0}
use Rattle.encoding_index.proofs.line.row_of.Goals as goal

is_open : (ended : Bool) → not ended ≡ true → ended ≡ false
is_open false e = refl
is_open true e = absurd cc

is_ended : (ended : Bool) → not ended ≡ false → ended ≡ true
is_ended true e = refl
is_ended false e = absurd cc

pub returns-in_err-pointer-clause-row : goal.returns-in_err-pointer-clause-row
returns-in_err-pointer-clause-row c = let none = no_start c.args.line.now (c.in_err-pointer.ensures.none refl) in cc

pub returns-then-not-is_row_end-clause-row : goal.returns-then-not-is_row_end-clause-row
returns-then-not-is_row_end-clause-row c = elim c.if-code-eq0.branch [
  | then-code-eq0 w ↦ sym (row_in_zero c.args.line.now c.in_ok-pointer.pointer c.in_ok-pointer.code c.in_ok-pointer.rest.now c.in_ok-pointer.ensures.some w.if-code-eq0.true)
  | else-code-eq0 w ↦
      let open_end = is_open w.is_row_end.result (sym w.value-is ∙ c.if-not-is_row_end.true) in
      sym (row_in_open c.args.line.now c.in_ok-pointer.pointer c.in_ok-pointer.code c.in_ok-pointer.rest.now c.in_ok-pointer.ensures.some (sym w.is_row_end.ensures ∙ open_end))
]

pub returns-else-not-is_row_end-clause-row : goal.returns-else-not-is_row_end-clause-row
returns-else-not-is_row_end-clause-row c = elim c.if-code-eq0.branch [
  | then-code-eq0 w ↦
      let zero = w.if-code-eq0.true in
      let other = sym w.value-is ∙ c.if-not-is_row_end.false in
      absurd (grind (arith, nat_tests))
  | else-code-eq0 w ↦
      let ended = is_ended w.is_row_end.result (sym w.value-is ∙ c.if-not-is_row_end.false) in
      sym (row_in_ended c.args.line.now c.in_ok-pointer.pointer c.in_ok-pointer.code c.in_ok-pointer.rest.now c.in_ok-pointer.ensures.some (omega (arith, w.if-code-eq0.false)) (sym w.is_row_end.ensures ∙ ended))
]
