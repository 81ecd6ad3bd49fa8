use Rattle.std.proofs.Common.{map}
use Rattle.recode_words.proofs.ParseLemmas.{ended, matched}
use Rattle.recode_words.proofs.values.matches.Goals as goal

pub returns-clause-ok : goal.returns-clause-ok
returns-clause-ok c =
    let call = c.try_get_matches_from_mut in
    matched c.args.command.now call.new.self (map (λ s. s.now) c.args.words.now) call.result c.requires call.ensures.ok call.ensures.kinds

pub returns-clause-err : goal.returns-clause-err
returns-clause-err c =
    let call = c.try_get_matches_from_mut in
    ended c.args.command.now (map (λ s. s.now) c.args.words.now) call.result c.requires call.ensures.kinds
