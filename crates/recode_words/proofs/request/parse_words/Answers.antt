use Rattle.std.proofs.Common.{map}
use Rattle.recode_words.proofs.LimitLemmas.{answer_small}
use Rattle.recode_words.proofs.request.parse_words.Goals as goal

pub returns-clause-limit : goal.returns-clause-limit
returns-clause-limit c = answer_small (map (λ s. s.now) c.args.words.now) c.early_answer.result c.early_answer.ensures.ok
