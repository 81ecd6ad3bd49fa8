use Rattle.recode_parts.proofs.WholeLemmas.{adds_to_whole}
use Rattle.recode_parts.proofs.laws.summaries_add_up.Goals as goal

pub returns : goal.returns
returns c =
    let law = c.parts_are_the_whole.ensures in
    λ j x y p q s valid cut one other adds.
    adds_to_whole j x y (law.text j x y valid cut) (law.verdict j x y valid cut) (λ p' q' r h k l. law.reports j x y p' q' r valid cut h k l) p q s one other adds
