use Rattle.std.proofs.Common.{◌≡◌, take, length, inl, inr, arith}
use Rattle.std.proofs.lemmas.List.{take_all}
use Rattle.recode_log.specs.laws.Told.{took_part, took_whole}
use Rattle.recode_log.proofs.deliver.tell.Goals as goal

pub returns-in-Ok-clause-tells : goal.returns-in-Ok-clause-tells
returns-in-Ok-clause-tells g c =
    let all : take (length c.args.message.now) c.args.message.now ≡ c.args.message.now = take_all _ _ (omega arith) in
    record {
      told = length c.args.message.now;
      whole = inl (c.in-Ok.ensures.ok.1, all);
      passed = rw all c.in-Ok.ensures.ok.2;
      offers = c.in-Ok.ensures.offers;
      last = λ less. absurd (omega (arith, less));
    }

pub returns-in-Err-clause-tells : goal.returns-in-Err-clause-tells
returns-in-Err-clause-tells g c =
    let part = c.in-Err.ensures.err in
    record {
      told = part.0;
      whole = inr (part.3, part.1);
      passed = part.4;
      offers = c.in-Err.ensures.offers;
      last = λ less. c.in-Err.ensures.failed;
    }

pub returns-in-Ok-clause-told : goal.returns-in-Ok-clause-told
returns-in-Ok-clause-told g c = took_whole _ _ _ _ _ c.in-Ok.ensures.ok

pub returns-in-Err-clause-told : goal.returns-in-Err-clause-told
returns-in-Err-clause-told g c = took_part _ _ _ _ _ c.in-Err.ensures.err
