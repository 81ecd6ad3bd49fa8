use Rattle.std.proofs.Common.{sym, ◌∙◌}
use Rattle.jillapun_c.proofs.EncodingNumberLemmas.{same_number, not_there}
use Rattle.jillapun_c.proofs.encoding.jillapun_for_label.Goals as goal

pub returns-in-Some-clause-found : goal.returns-in-Some-clause-found
returns-in-Some-clause-found c e has = c.number_of.ensures.number ∙ same_number c.in-Some.encoding e (sym c.in-Some.is ∙ (c.for_label.ensures e).1 has)

pub returns-in-Some-clause-none : goal.returns-in-Some-clause-none
returns-in-Some-clause-none c none = absurd (none c.in-Some.encoding ((c.for_label.ensures c.in-Some.encoding).0 c.in-Some.is))

pub returns-in-None-clause-found : goal.returns-in-None-clause-found
returns-in-None-clause-found c e has = absurd (not_there e (sym c.in-None.is ∙ (c.for_label.ensures e).1 has))
