use Rattle.std.proofs.Common.{sym, ◌∙◌}
use Rattle.jillapun_c.proofs.EncodingNumberLemmas.{same_number, not_there}
use Rattle.jillapun_c.proofs.encoding.jillapun_for_label_no_replacement.Goals as goal

pub returns-in-Some-clause-found : goal.returns-in-Some-clause-found
returns-in-Some-clause-found c e has other =
    c.number_of.ensures.number ∙ same_number c.in-Some.encoding e (sym c.in-Some.is ∙ (c.for_label_no_replacement.ensures e).1 (has, other))

pub returns-in-Some-clause-none : goal.returns-in-Some-clause-none
returns-in-Some-clause-none c only =
    let is = (c.for_label_no_replacement.ensures c.in-Some.encoding).0 c.in-Some.is in absurd (is.1 (only c.in-Some.encoding is.0))

pub returns-in-None-clause-found : goal.returns-in-None-clause-found
returns-in-None-clause-found c e has other = absurd (not_there e (sym c.in-None.is ∙ (c.for_label_no_replacement.ensures e).1 (has, other)))
