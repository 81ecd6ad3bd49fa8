use Rattle.std.proofs.Common.{refl, subst}
use Rattle.std.specs.Prelude.{IsSomeAnd}
use Rattle.jillapun_c.specs.Coders.{encoder_in}
use Rattle.jillapun_c.specs.EncoderWords.{GoesOnAs}
use Rattle.jillapun_c.proofs.EncoderHandleLemmas.{answers, answers_closed}
use Rattle.jillapun_c.proofs.encoder.utf16.jillapun_encoder_encode_from_utf16.Goals as goal

pub keep-requires : goal.keep-requires
keep-requires c =
    let call = c.encode_from_utf16-outcome.ensures.call in
    subst (λ o. IsSomeAnd o (λ e. GoesOnAs e c.encode_from_utf16-outcome.new.self)) c.in-Some.ensures (record { same = call.same; moves = call.moves })

pub returns-in_default-clause-encodes : goal.returns-in_default-clause-encodes
returns-in_default-clause-encodes c = answers_closed (encoder_in c.args.encoder.now) _ c.in_default.ensures

pub returns-clause-encodes : goal.returns-clause-encodes
returns-clause-encodes c = answers (encoder_in c.args.encoder.now) c.in-Some.opened _ c.in-Some.ensures (record {
  encoder = c.encode_from_utf16-outcome.new.self;
  held = c.keep.ensures;
  outcome = c.encode_from_utf16-outcome.result.0;
  told = c.outcome_of.ensures;
  no_scalar = refl;
  wrote = c.encode_from_utf16-outcome.ensures.wrote;
  call = c.encode_from_utf16-outcome.ensures.call;
  enough = c.encode_from_utf16-outcome.ensures.enough;
})
