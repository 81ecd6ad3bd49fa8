use Rattle.std.proofs.Common.{◌∙◌, ◌++◌, ap, sym}
use Rattle.std.specs.Char.{encode_utf8}
use Rattle.std.proofs.lemmas.Bool.{eq-eqb, eqb-true, false≢true}
use Rattle.recode_places.proofs.FateLemmas.{first_alone, first_of_more}
use Rattle.recode_places.proofs.fates.only_char.Goals as goal

pub returns-then-is_empty : goal.returns-then-is_empty
returns-then-is_empty c =
    first_alone c.in_ok-first.first c.args.text.now _ c.utf8.text (sym c.chars-rest.ensures.rest ∙ c.in_ok-first.ensures.steps.0 ∙ ap (λ l. encode_utf8 c.in_ok-first.first ++ l) (sym c.as_str.ensures))
    (eqb-true _ 0 (sym c.is_empty.ensures ∙ c.if-is_empty.true))

pub returns-else-is_empty : goal.returns-else-is_empty
returns-else-is_empty c =
    first_of_more c.in_ok-first.first c.args.text.now _ c.utf8.text (sym c.chars-rest.ensures.rest ∙ c.in_ok-first.ensures.steps.0 ∙ ap (λ l. encode_utf8 c.in_ok-first.first ++ l) (sym c.as_str.ensures))
    (λ e. false≢true (sym (sym c.is_empty.ensures ∙ c.if-is_empty.false) ∙ eq-eqb _ 0 e))
