use Rattle.std.proofs.Common.{refl, sym}
use Rattle.jillapun_c.specs.Coders.{encoder_in}
use Rattle.jillapun_c.proofs.EncoderHandleLemmas.{made, not_made}
use Rattle.jillapun_c.proofs.encoder.jillapun_encoder_new.Goals as goal

pub of_new-requires : goal.of_new-requires
of_new-requires c = rw (← c.output_encoding.ensures) (c.are_ready.ensures.ready.0 (rw c.if-not-are_ready.false refl))

pub returns-then-not-are_ready-clause-makes : goal.returns-then-not-are_ready-clause-makes
returns-then-not-are_ready-clause-makes c = let e = c.in-Some.encoding in
    not_made c.args.tables.tables c.args.encoding e (encoder_in c.none.result) (sym c.in-Some.ensures)
    (λ ready. let no = c.if-not-are_ready.true in let yes = c.are_ready.ensures.ready.1 (rw c.output_encoding.ensures ready) in absurd (cc))

pub returns-clause-makes : goal.returns-clause-makes
returns-clause-makes c = let e = c.in-Some.encoding in
    made c.args.tables.tables c.args.encoding e (encoder_in c.of_new.result) (sym c.in-Some.ensures)
    (rw (← c.output_encoding.ensures) (c.are_ready.ensures.ready.0 (rw c.if-not-are_ready.false refl))) c.of_new.ensures
