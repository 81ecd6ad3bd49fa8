use Rattle.recode_parts.proofs.WholeLemmas.{cut_again, later_stays}
use Rattle.recode_parts.proofs.laws.parts_follow_one_another.Goals as goal

pub returns : goal.returns
returns c = record { cut = λ j x y valid cut. cut_again j x y valid cut; job = λ j x y valid cut. later_stays j x y valid cut }
