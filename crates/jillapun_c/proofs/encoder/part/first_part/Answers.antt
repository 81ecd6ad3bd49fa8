use Rattle.std.proofs.Common.{◌≡◌, ◌<◌, ◌==◌, ℕ, Bool, true, false, length, inl, inr, refl, sym, ◌∙◌, arith}
use Rattle.std.proofs.lemmas.Bool.{cases_lt, eqb-true, eq-eqb}
use Rattle.jillapun_c.proofs.TextPartLemmas.{first_is, malformed_at_start}
use Rattle.jillapun_c.proofs.encoder.part.first_part.Goals as goal
use Rattle.jillapun_c.proofs.encoder.part.first_part.Goals.{else-len-eq0-via-then-len-eq0+else-not-is_empty, else-len-eq0-via-else-len-eq0}

none : (n : ℕ) (t : Bool) → t ≡ (n == 0) → t ≡ true → n ≡ 0
none n t is true_is = eqb-true n 0 (sym is ∙ true_is)

some : (n : ℕ) (t : Bool) → t ≡ (n == 0) → t ≡ false → 0 < n
some n t is false_is = elim (cases_lt 0 n) [ inl more ↦ more | inr zero ↦ (let same = eq-eqb n 0 (omega (arith, zero)) in absurd (cc)) ]

pub returns-then-not-is_empty : goal.returns-then-not-is_empty
returns-then-not-is_empty c =
    malformed_at_start c.args.text.now c.args.most c.looked_at.result c.utf8_valid_up_to-len.result c.looked_at.ensures c.utf8_valid_up_to-len.ensures
    (omega (arith, c.if-len-eq0.true)) (some (length c.args.text.now) c.is_empty.result c.is_empty.ensures c.if-not-is_empty.true)

pub returns : goal.returns
returns c =
    first_is c.args.text.now c.from_utf8_unchecked-part.result.now c.args.most c.looked_at.result c.utf8_valid_up_to-len.result _ c.looked_at.ensures c.utf8_valid_up_to-len.ensures
    c.from_utf8_unchecked-part.ensures
    (λ zero. elim c.else-len-eq0.branch [
      | else-len-eq0-via-then-len-eq0+else-not-is_empty w ↦ none (length c.args.text.now) w.is_empty.result w.is_empty.ensures w.if-not-is_empty.false
      | else-len-eq0-via-else-len-eq0 w ↦ absurd (omega (arith, zero, w.if-len-eq0.false))
    ])
    refl
