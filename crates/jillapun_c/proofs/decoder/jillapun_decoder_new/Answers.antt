use Rattle.std.proofs.Common.{refl, sym}
use Rattle.jillapun_c.proofs.HeldDecoderLemmas.{made_new}
use Rattle.jillapun_c.proofs.decoder.jillapun_decoder_new.Goals as goal

pub returns-clause-makes : goal.returns-clause-makes
returns-clause-makes c =
    made_new c.args.tables.tables c.args.encoding c.args.mark c.of_new.result c.in-Some.encoding c.in-Some-mark_of.mark (sym c.in-Some.ensures) (sym c.in-Some-mark_of.ensures)
    (c.are_ready.ensures.ready.0 (rw c.if-not-are_ready.false refl)) c.of_new.ensures
