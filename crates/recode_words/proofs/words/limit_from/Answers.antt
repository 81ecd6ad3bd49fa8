use Rattle.std.proofs.Common.{◌≡◌, ◌∷◌, [], arith, subst, take}
use Rattle.std.specs.Prelude.{nat_eq}
use Rattle.std.specs.Cmp.Lexicographic.{pointwise}
use Rattle.recode_words.proofs.LimitLemmas.{limit_read, no_limit, unsigned}
use Rattle.recode_words.proofs.words.limit_from.Goals as goal

pub returns-in-Ok : goal.returns-in-Ok
returns-in-Ok c =
    limit_read c.args.text.now c.parse.result c.in-Ok.limit
    (unsigned c.args.text.now c.starts_with.result
    (subst (λ b. c.starts_with.result ≡ pointwise nat_eq (43 ∷ []) (take 1 b)) c.as_bytes.ensures.value c.starts_with.ensures.value)
    c.if-starts_with.false)
    c.parse.ensures.value.0 c.in-Ok.is (omega (arith, c.if-limit-le-GREATEST_LIMIT.true))

pub returns-in_default-2 : goal.returns-in_default-2
returns-in_default-2 c =
    no_limit c.args.text.now c.parse.result c.in_default.field-0
    (unsigned c.args.text.now c.starts_with.result
    (subst (λ b. c.starts_with.result ≡ pointwise nat_eq (43 ∷ []) (take 1 b)) c.as_bytes.ensures.value c.starts_with.ensures.value)
    c.if-starts_with.false)
    c.parse.ensures.value.0 c.in_default.is
