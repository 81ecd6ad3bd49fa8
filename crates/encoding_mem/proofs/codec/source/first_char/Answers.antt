use Rattle.std.proofs.Common.{◌≡◌, List, ℕ, [], ◌∷◌, ◌++◌, length, arith, subst, sym, ◌∙◌, ap}
use Rattle.std.specs.Str.{chars, IsCharBoundary}
use Rattle.std.specs.Char.{encode_utf8}
use Rattle.std.proofs.lemmas.Str.{chars_past_char, chars-nil, IsCharBoundary-at_seam, length-encode}
use Rattle.encoding_mem.proofs.codec.source.first_char.Goals as goal

pub returns-in-Some-clause-boundary : goal.returns-in-Some-clause-boundary
returns-in-Some-clause-boundary c =
    let e = sym c.chars-rest.ensures.rest ∙ c.in-Some.ensures.steps.0 ∙ ap (λ l. encode_utf8 c.in-Some.c ++ l) (sym c.as_str.ensures) in
    subst (λ n. IsCharBoundary c.args.text.now n) (length-encode c.in-Some.c) (IsCharBoundary-at_seam _ _ _ e c.as_str.utf8)

pub returns-in-Some-clause-chars : goal.returns-in-Some-clause-chars
returns-in-Some-clause-chars c = chars_past_char _ _ _ c.utf8.text (sym c.chars-rest.ensures.rest ∙ c.in-Some.ensures.steps.0 ∙ ap (λ l. encode_utf8 c.in-Some.c ++ l) (sym c.as_str.ensures))

none : (bs : List ℕ) → length bs ≡ 0 → chars bs ≡ []
none [] e = chars-nil
none (b ∷ bs) e = absurd (omega arith)

pub returns-in-None-clause-chars : goal.returns-in-None-clause-chars
returns-in-None-clause-chars c = none _ (ap length (sym c.chars-rest.ensures.rest) ∙ c.in-None.ensures.steps.0.0)
