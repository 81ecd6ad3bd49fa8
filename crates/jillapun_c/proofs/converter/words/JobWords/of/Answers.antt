use Rattle.std.proofs.Common.{refl}
use Rattle.jillapun_c.proofs.EncodingNumberLemmas.{found_at}
use Rattle.jillapun_c.proofs.converter.words.JobWords.of.Goals as goal

pub returns : goal.returns
returns c =
    rw (c.number_of.ensures.number, c.number_of-2.ensures.number)
    (rw (found_at c.args.job.from, found_at c.args.job.to, c.number_of_mark.ensures, c.number_of_policy.ensures) refl)
