use Rattle.encoding_front.proofs.EncoderCallLemmas.{behind_put}
use Rattle.encoding_front.proofs.reference.put_parts.Goals as goal

pub returns-clause-behind : goal.returns-clause-behind
returns-clause-behind c =
    let digits = behind_put _ _ _ _ _ _ c.put_all-end_at.ensures.end c.put_all-digits_at.ensures.back c.put_all-end_at.ensures.back in
    behind_put _ _ _ _ _ _ c.put_all.ensures.end digits c.put_all.ensures.back
